-- How a runtime waits by turns.
use Rattle.std.proofs.Common.{◌≡◌, ℕ, zero, suc, ◌+◌, ◌<◌, ◌≤◌, ◌∙◌, Bool, true, false, Option, Some, None, add-one, ap, arith, is_some, refl, subst, sym}
use Rattle.rcu_jobs.specs.declared.Counts.{Counts}
use Rattle.rcu_jobs.specs.declared.Passed.{Passed}
use Rattle.rcu_jobs.specs.declared.turns.DriverTurn.{DriverTurn}
use Rattle.rcu_part_control.specs.declared.barrier.Barrier.{Barrier}
use Rattle.rcu_parts.specs.OneOpen.{Parts}
use Rattle.rcu_parts.specs.SameParts.{AreSameParts}
use Rattle.rcu_runtime.proofs.Drains.{drained_by}
use Rattle.rcu_runtime.proofs.Wholes.{continues_again, continues_along}
use Rattle.rcu_runtime.specs.Calls.{OnControl, Polls}
use Rattle.rcu_runtime.specs.Runtimes.{Continues, IsDrained, IsShutFor, accepted_in}
use Rattle.rcu_runtime.specs.Turns.{TurnsAll}
use Rattle.rcu_runtime.specs.Waits.{DrainsBy, FindsPassed, ShutsAndOpens, TurnsUntil, Waits, WaitsFor}

-- where one turn would show what isn't so, none was made
pub none_made : {P : Type 0} (n : ℕ) → (0 < n → P) → (P → ⊥) → n ≡ 0
none_made zero shows not = refl
none_made (suc n) shows not = absurd (not (shows (omega arith)))

module _ {J R : Type 0} where
  pub waited_none : (moment n : ℕ) (counts : Counts) (old new : Parts J R) → n ≡ 0 → Waits moment counts n old new → new ≡ old
  waited_none moment n counts old new none waits = subst (λ m. Waits moment counts m old new) none waits

  once_more : (moment n : ℕ) (counts : Counts) (old before polled new : Parts J R) (answer : DriverTurn) → Waits moment counts n old before → OnControl (Polls counts None) before polled → TurnsAll moment answer polled new
      → Waits moment counts (suc n) old new
  once_more moment n counts old before polled new answer earlier polls turns = record { before = before; polled = polled; answer = answer; earlier = earlier; polls = polls; turns = turns }

  -- a poll that finds it not passed, and a turn
  pub waits_more : (moment n : ℕ) (counts : Counts) (old before polled new : Parts J R) (answer : DriverTurn) → Waits moment counts n old before → OnControl (Polls counts None) before polled → TurnsAll moment answer polled new
      → Waits moment counts (n + 1) old new
  waits_more moment n counts old before polled new answer earlier polls turns =
      subst (λ m. Waits moment counts m old new) (sym (add-one n)) (once_more moment n counts old before polled new answer earlier polls turns)

  -- while it waits the runtime goes on as the same one, and no callback more is accepted
  pub waits_continue : (moment n : ℕ) (counts : Counts) (old new : Parts J R) → Waits moment counts n old new → Continues old new
  waits_continue moment zero counts old new w = continues_along old new w
  waits_continue moment (suc n) counts old new w =
      continues_again old w.polled new (continues_again old w.before w.polled (waits_continue moment n counts old w.before w.earlier) w.polls.continues) w.turns.continues

  waits_none : (moment n : ℕ) (counts : Counts) (old new : Parts J R) → Waits moment counts n old new → accepted_in new ≡ accepted_in old
  waits_none moment zero counts old new w = ap (λ (x : Parts J R). accepted_in x) w
  waits_none moment (suc n) counts old new w = w.turns.none ∙ (w.polls.none ∙ waits_none moment n counts old w.before w.earlier)

  -- a wait, and a last poll
  pub waits_for : (moment n : ℕ) (counts : Counts) (Many : ℕ → Type 0) (passed : Option Passed) (old between new : Parts J R) → Many n → Waits moment counts n old between → OnControl (Polls counts passed) between new
      → WaitsFor moment counts Many passed old new
  waits_for moment n counts Many passed old between new many waits polls = record {
    times = n;
    many = many;
    between = between;
    waits = waits;
    polls = polls;
    continues = continues_again old between new (waits_continue moment n counts old between waits) polls.continues;
    none = polls.none ∙ waits_none moment n counts old between waits;
  }

  -- what a poll found, by its answer
  pub found : (counts : Counts) (passed : Option Passed) (answer : Bool) (old new : Parts J R) → answer ≡ is_some passed → OnControl (Polls counts passed) old new → FindsPassed counts answer old new
  found counts None answer old new is polls = subst (λ b. FindsPassed counts b old new) (sym is) polls
  found counts (Some passed) answer old new is polls = subst (λ b. FindsPassed counts b old new) (sym is) (passed, polls)

  pub drained_where : (counts : Counts) (answer : Bool) (old new : Parts J R) → IsShutFor counts old → AreSameParts old new → FindsPassed counts answer old new → answer ≡ true → IsDrained new
  drained_where counts answer old new shut same finds has = let f = subst (λ b. FindsPassed counts b old new) has finds in drained_by counts f.0 old new shut f.1 same

  -- the wait ends early, or goes on, by what a poll found
  pub passes_early : (moment turns n : ℕ) (counts : Counts) (answer : Bool) (old between new : Parts J R) → n < turns → Waits moment counts n old between → FindsPassed counts answer between new → answer ≡ true
      → TurnsUntil moment turns counts true old new
  passes_early moment turns n counts answer old between new few waits finds has =
      let f = subst (λ b. FindsPassed counts b between new) has finds in
      (f.0, waits_for moment n counts (λ m. m ≤ turns) (Some f.0) old between new (omega (arith, few)) waits f.1)

  pub not_found : (counts : Counts) (answer : Bool) (old new : Parts J R) → FindsPassed counts answer old new → answer ≡ false → OnControl (Polls counts None) old new
  not_found counts answer old new finds hasnt = subst (λ b. FindsPassed counts b old new) hasnt finds

  -- all turns were made, and a last poll says whether that was enough
  pub ends_waiting : (moment turns n : ℕ) (counts : Counts) (answer : Bool) (old between new : Parts J R) → n ≡ turns → Waits moment counts n old between → FindsPassed counts answer between new → TurnsUntil moment turns counts answer old new
  ends_waiting moment turns n counts true old between new all waits finds = (finds.0, waits_for moment n counts (λ m. m ≤ turns) (Some finds.0) old between new (omega (arith, all)) waits finds.1)
  ends_waiting moment turns n counts false old between new all waits finds = waits_for moment n counts (λ m. m ≡ turns) None old between new all waits finds

  until_continues : (moment turns : ℕ) (counts : Counts) (answer : Bool) (old new : Parts J R) → TurnsUntil moment turns counts answer old new → Continues old new
  until_continues moment turns counts true old new u = u.1.continues
  until_continues moment turns counts false old new u = u.continues

  until_none : (moment turns : ℕ) (counts : Counts) (answer : Bool) (old new : Parts J R) → TurnsUntil moment turns counts answer old new → accepted_in new ≡ accepted_in old
  until_none moment turns counts true old new u = u.1.none
  until_none moment turns counts false old new u = u.none

  -- a drain: it is shut, a barrier is opened, and it waits
  pub drains_by : (moment turns : ℕ) (answer : Bool) (barrier : Barrier) (old opened new : Parts J R) → ShutsAndOpens barrier old opened → TurnsUntil moment turns barrier.counts answer opened new → DrainsBy moment turns answer old new
  drains_by moment turns answer barrier old opened new begins waits = record {
    barrier = barrier;
    opened = opened;
    begins = begins;
    waits = waits;
    continues = continues_again old opened new begins.continues (until_continues moment turns barrier.counts answer opened new waits);
    none = until_none moment turns barrier.counts answer opened new waits ∙ begins.none;
  }
