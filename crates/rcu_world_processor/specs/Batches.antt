-- Batches, lanes and the bypass list, as the law sees them
use Rattle.std.specs.Prelude.{◌≡◌, ℕ, Bool, List, map}
use Rattle.rcu_world_law.specs.Calls.{Call}
use Rattle.rcu_world_law.specs.Lists.{is_nil}
use Rattle.rcu_world_law.specs.Releases.{Pace, is_late}
use Rattle.rcu_world_law.specs.States.{Cpu}
use Rattle.rcu_world_law.specs.Steps.{with_pace}
use Rattle.rcu_lists.specs.Batches.{batch_items}
use Rattle.rcu_lists.specs.Bypasses.{bypass_items, bypass_pace, bypass_qhimark}
use Rattle.rcu_lists.specs.declared.batch.Batch.{Batch}
use Rattle.rcu_lists.specs.declared.bypass.Bypass.{Bypass}
use Rattle.rcu_lists.specs.declared.pace.Pace.{Pace as ListPace}
use Rattle.rcu_world_processor.specs.Waits.{calls}

module _ {J : Type 0} (key_of : J → ℕ) where
  abbrev pub batch : Batch J → List Call
  batch b = calls key_of (batch_items b)

  abbrev pub batches : List (Batch J) → List (List Call)
  batches bs = map batch bs

  abbrev pub bypassed : Bypass J → List Call
  bypassed b = calls key_of (bypass_items b)

-- what a bypass list remembers beside its callbacks
abbrev pub law_pace : ListPace → Pace
law_pace p = record { moment = p.last; direct = p.direct; kept_moment = p.lazy; plain = p.plain }

abbrev pub pace : {J : Type 0} → Bypass J → Pace
pace b = law_pace (bypass_pace b)

-- a processor with the callbacks and the pace of this bypass list
abbrev pub with_bypass : {J : Type 0} → (J → ℕ) → Bypass J → Cpu → Cpu
with_bypass key_of b c = with_pace (pace b) (record c { bypass = bypassed key_of b })

-- The pace of a bypass list is as the law has it, whatever else its processor has, and the list is released at the same length.
pub record PacesAs {J : Type 0} (key_of : J → ℕ) (law : Cpu → Pace) (old new : Bypass J) : Type 0 where
  pub after : (c : Cpu) → pace new ≡ law (with_bypass key_of old c)
  pub qhimark : bypass_qhimark new ≡ bypass_qhimark old

-- a tick's test of a bypass list by the moment
abbrev pub is_late_at : {J : Type 0} → (J → ℕ) → ℕ → Bypass J → Bool
is_late_at key_of moment b = is_late moment (pace b).moment (is_nil (bypassed key_of b)) (pace b).plain (pace b).kept_moment
