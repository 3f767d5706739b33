-- What contracts see of a bypass list: docs/specification/rules.md, "Bypass lists".
use Rattle.std.specs.Prelude.{◌≡◌, ℕ, Bool, true, false, List, []}
use Rattle.rcu_jobs.specs.declared.callback.Callback.{Callback}
use Rattle.rcu_lists.specs.Batches.{batch_items, HasRoom}
use Rattle.rcu_lists.specs.declared.bypass.Bypass.{Bypass}
use Rattle.rcu_lists.specs.declared.bypass.Placed.{Placed}
use Rattle.rcu_lists.specs.declared.bypass.Placed.TheVariants.{Kept, Out}
use Rattle.rcu_lists.specs.declared.pace.Pace.{Pace}

module _ {J : Type 0} where
  abbrev pub bypass_items : Bypass J → List (Callback J)
  bypass_items b = batch_items b.held

  -- what it remembers beside its callbacks
  abbrev pub bypass_pace : Bypass J → Pace
  bypass_pace b = b.pace

  -- the length at which it is released
  abbrev pub bypass_qhimark : Bypass J → ℕ
  bypass_qhimark b = b.qhimark

  -- so many more callbacks fit with no memory
  abbrev pub BypassRoom : Bypass J → ℕ → Type 0
  BypassRoom b more = HasRoom b.held more

  -- everything is as it was
  pub record BypassUnchanged (old new : Bypass J) : Type 0 where
    pub items : bypass_items new ≡ bypass_items old
    pub pace : bypass_pace new ≡ bypass_pace old
    pub qhimark : bypass_qhimark new ≡ bypass_qhimark old
    pub room : (more : ℕ) → BypassRoom old more → BypassRoom new more

  -- what a placing hands out
  abbrev pub out_items : Placed J → List (Callback J)
  out_items Kept = []
  out_items (Out batch) = batch_items batch

  abbrev pub is_out : Placed J → Bool
  is_out Kept = false
  is_out (Out batch) = true
