-- What control does in a run, one order and one step of the run after another.
use Rattle.std.proofs.Common.{◌≡◌, ◌∙◌, ℕ, suc, Bool, true, Result, Ok, Err, ap, subst}
use Rattle.std.specs.Prelude.{IfOk}
use Rattle.rcu_part_control.specs.declared.control.Control.{Control}
use Rattle.rcu_parts.specs.OneOpen.{Parts}
use Rattle.rcu_runtime_threads.specs.Faults.{IsEarly, IsLate}
use Rattle.rcu_runtime_threads.specs.Steers.{AreSteered, IsOverseen, IsSteered, LooksBy, LooksIf, Oversees, RunsControl, Steers, StopsControl}
use Rattle.rcu_runtime_threads.specs.declared.fault.WorkersFault.{WorkersFault}
use Rattle.rcu_runtime_threads.specs.declared.fault.WorkersFault.TheVariants.{Memory, OtherNumber, NoThread, NotDrained}
use Rattle.rcu_runtime_threads.specs.declared.run.Ending.{Ending}
use Rattle.rcu_runtime_threads.specs.declared.steering.Order.{Order}
use Rattle.rcu_runtime_threads.specs.declared.steering.Reply.{Reply}

once_more : (may : Order → Type 0) (n : ℕ) (c before d : Control) (o : Order) (r : Reply) → AreSteered may n c before → may o → Steers o r before d → AreSteered may (suc n) c d
once_more may n c before d o r earlier allowed steers = record { before = before; order = o; reply = r; earlier = earlier; allowed = allowed; steers = steers }

-- one order more
pub steered_on : (may : Order → Type 0) (c before d : Control) (o : Order) (r : Reply) → IsSteered may c before → may o → Steers o r before d → IsSteered may c d
steered_on may c before d o r earlier allowed steers = (suc earlier.0, once_more may earlier.0 c before d o r earlier.1 allowed steers)

module _ {J R : Type 0} (may : Order → Type 0) (ending : Ending) (old apart ran whole : Parts J R) (same : apart ≡ old) (together : whole ≡ ran) where
  overseen : Oversees may ending true apart.control ran.control → IsOverseen may ending old.control ran.control
  overseen o = subst (λ (x : Parts J R). IsOverseen may ending x.control ran.control) same o

  -- a run that was made
  pub runs_control : (begun : Bool) (new : Parts J R) → begun ≡ true → Oversees may ending begun apart.control ran.control → LooksBy ending whole new → RunsControl may ending old new
  runs_control begun new is o looks = record {
    ran = ran;
    oversees = overseen (subst (λ b. Oversees may ending b apart.control ran.control) is o);
    looks = subst (λ (x : Parts J R). LooksBy ending x new) together looks;
  }

  -- one that ended late
  pub late_control : (begun : Bool) (fault : WorkersFault) (new : Parts J R) → IsLate begun ending fault → Oversees may ending begun apart.control ran.control → LooksIf begun ending whole new → StopsControl may ending fault old new
  late_control begun Memory new late o looks = absurd late
  late_control begun (OtherNumber n m) new late o looks = absurd late
  late_control begun NoThread new late o looks =
      let kept : ran.control ≡ apart.control = subst (λ b. Oversees may ending b apart.control ran.control) late o in
      let left : new ≡ whole = subst (λ b. LooksIf b ending whole new) late looks in
      ap (λ (x : Parts J R). x.control) (left ∙ together) ∙ (kept ∙ ap (λ (x : Parts J R). x.control) same)
  late_control begun NotDrained new late o looks = runs_control begun new late.0 o (subst (λ b. LooksIf b ending whole new) late.0 looks)

module _ {J R : Type 0} where
  -- one that was never started
  pub early_control : (may : Order → Type 0) (ending : Ending) (n m : ℕ) (fault : WorkersFault) (old new : Parts J R) → IsEarly n m fault → new ≡ old → StopsControl may ending fault old new
  early_control may ending n m Memory old new early same = ap (λ (x : Parts J R). x.control) same
  early_control may ending n m (OtherNumber a b) old new early same = ap (λ (x : Parts J R). x.control) same
  early_control may ending n m NoThread old new early same = absurd early
  early_control may ending n m NotDrained old new early same = absurd early

pub if_ok_both : {A B : Type 0} (P Q S : A → Type 0) → ((a : A) → P a → Q a → S a) → (r : Result A B) → IfOk r P → IfOk r Q → IfOk r S
if_ok_both P Q S f (Ok a) p q = f a p q
if_ok_both P Q S f (Err b) p q = tt
