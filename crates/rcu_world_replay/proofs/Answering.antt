-- What the calls of a world answer, as the lines of the commands say it.
use Rattle.std.proofs.Common.{◌≡◌, ℕ, ◌<◌, ◌&&◌, length, [], ◌∷◌, ◌++◌, true, false, nat_le, nat_lt, arith, Bool, not, Option, Some, None, Result, Ok, Err, IfOk, IfErr, OnOk, OnErr, refl, sym, subst, true≢false}
use Rattle.std.proofs.lemmas.Bool.Decides.{nat_tests}
use Rattle.std.specs.Option.{is_some}
use Rattle.rcu_jobs.specs.declared.Passed.{Passed}
use Rattle.rcu_jobs.specs.declared.Refused.{Refused}
use Rattle.rcu_jobs.specs.declared.Refused.TheVariants.{Limit, Memory, Closed}
use Rattle.rcu_jobs.specs.Refusals.{number_of}
use Rattle.rcu_world_law.specs.Events.CoreEvent.{Ask}
use Rattle.rcu_world_law.specs.States.{State, cpu_at}
use Rattle.rcu_world_law.specs.declared.marks.Mark.TheVariants as marks
use Rattle.rcu_world.specs.Polls.{IsPollAnswer}
use Rattle.rcu_world.specs.Ready.{IsRefusal}
use Rattle.rcu_world.specs.Turns.{Leads, call_events, where_enabled}
use Rattle.rcuo_script.specs.contracts.lines.Verb.{the_type}
use Rattle.rcuo_script.specs.declared.lines.Verb.{Verb}
use Rattle.rcuo_script.specs.declared.lines.Verb.TheVariants as verb
use Rattle.rcu_world_replay.specs.Outcomes.{call_refusal, is_lazy, is_offload}
use denote.Enum.Bare.{sameb}

-- what an answer that was stored says once it is known
module _ {T E : Type 0} {answer result : Result T E} (stored : answer ≡ result) where
  pub if_ok : (P : T → Type 0) {x : T} → answer ≡ Ok x → IfOk result P → P x
  if_ok P is h = subst (λ r. IfOk r P) is (subst (λ r. IfOk r P) (sym stored) h)

  pub on_ok : {X : Type 0} {x : T} → answer ≡ Ok x → OnOk result X → X
  on_ok {X} is h = subst (λ r. OnOk r X) is (subst (λ r. OnOk r X) (sym stored) h)

  pub if_err : (P : E → Type 0) {x : E} → answer ≡ Err x → IfErr result P → P x
  if_err P is h = subst (λ r. IfErr r P) is (subst (λ r. IfErr r P) (sym stored) h)

  pub on_err : {X : Type 0} {x : E} → answer ≡ Err x → OnErr result X → X
  on_err {X} is h = subst (λ r. OnErr r X) is (subst (λ r. OnErr r X) (sym stored) h)

not_shut : (shut others : Bool) → (not shut && others) ≡ true → shut ≡ false
not_shut false others h = refl
not_shut true others h = absurd (true≢false (sym h))

others_hold : (shut others : Bool) → (not shut && others) ≡ true → others ≡ true
others_hold false others h = h
others_hold true others h = absurd (true≢false (sym h))

first_holds : (a b : Bool) → (a && b) ≡ true → a ≡ true
first_holds true b h = refl
first_holds false b h = h

-- the number of a refused call's line
pub refused_call : {J : Type 0} (w : State) (p : ℕ) (job : J) (r : Refused J) → p < length w.cpus → (cpu_at w p).away ≡ false → IsRefusal w p job r → number_of r ≡ call_refusal w p
refused_call w p job (Limit back) there here (same, at) =
    let t : nat_lt p (length w.cpus) ≡ true = grind (arith, nat_tests) in
    let l : nat_le w.shape.limit (cpu_at w p).count ≡ true = grind (arith, nat_tests) in
    rw (t, here, l) refl
refused_call w p job (Closed back) there here (same, below, shut) =
    let t : nat_lt p (length w.cpus) ≡ true = grind (arith, nat_tests) in
    let l : nat_le w.shape.limit (cpu_at w p).count ≡ false = grind (arith, nat_tests) in
    rw (t, here, l, shut) refl
refused_call w p job (Memory back) there here (same, may) =
    let t : nat_lt p (length w.cpus) ≡ true = grind (arith, nat_tests) in
    let rest = others_hold (cpu_at w p).away _ may in
    let unshut : (cpu_at w p).shut ≡ false = not_shut _ _ rest in
    let below : nat_lt (cpu_at w p).count w.shape.limit ≡ true = first_holds _ _ (others_hold (cpu_at w p).shut _ rest) in
    let l : nat_le w.shape.limit (cpu_at w p).count ≡ false = grind (arith, nat_tests) in
    rw (t, here, l, unshut) refl

-- a poll that gave nothing, and one that gave counts
module _ (old new : State) (b : ℕ) where
  pub waits_on : (answer : Option Passed) → is_some answer ≡ false → IsPollAnswer old b new answer → new.history ≡ old.history
  waits_on None none h = h
  waits_on (Some passed) none h = absurd (true≢false none)

  pub passes_on : (answer : Option Passed) → is_some answer ≡ true → IsPollAnswer old b new answer → new.history ≡ old.history ++ marks.Passed b ∷ []
  passes_on None some h = absurd (true≢false (sym some))
  passes_on (Some passed) some h = h.0

-- the tests of a verb
pub says_lazy : (v : Verb) → sameb the_type v verb.Lazy ≡ is_lazy v
says_lazy verb.Call = refl
says_lazy verb.Lazy = refl
says_lazy verb.Quiet = refl
says_lazy verb.Tick = refl
says_lazy verb.Group = refl
says_lazy verb.Hand = refl
says_lazy verb.Offload = refl
says_lazy verb.Deoffload = refl
says_lazy verb.Leave = refl
says_lazy verb.Return = refl

pub says_offload : (v : Verb) → sameb the_type v verb.Offload ≡ is_offload v
says_offload verb.Call = refl
says_offload verb.Lazy = refl
says_offload verb.Quiet = refl
says_offload verb.Tick = refl
says_offload verb.Group = refl
says_offload verb.Hand = refl
says_offload verb.Offload = refl
says_offload verb.Deoffload = refl
says_offload verb.Leave = refl
says_offload verb.Return = refl

-- a switch that was asked for as its verb says
pub asked : (old new : State) (p : ℕ) (v : Verb) (on : Bool) → is_offload v ≡ on → Leads old (where_enabled (Ask p on) old) new → Leads old (where_enabled (Ask p (is_offload v)) old) new
asked old new p v on says h = subst (λ x. Leads old (where_enabled (Ask p x) old) new) (sym says) h

-- a call that was accepted as its verb says
pub called : (old new : State) (p moment key : ℕ) (v : Verb) (lazy : Bool) → is_lazy v ≡ lazy → (number : ℕ) → number ≡ (cpu_at old p).count → ((room : Bool) × Leads old (call_events p moment lazy key room old) new)
    → (v ≡ v) × (p ≡ p) × (number ≡ (cpu_at old p).count) × ((room : Bool) × Leads old (call_events p moment (is_lazy v) key room old) new)
called old new p moment key v lazy says number is h = (refl, refl, is, subst (λ x. (room : Bool) × Leads old (call_events p moment x key room old) new) (sym says) h)
