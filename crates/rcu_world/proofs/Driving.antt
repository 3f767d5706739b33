-- What the driver answers
use Rattle.std.proofs.Common.{◌≡◌, ℕ, ◌+◌, ◌%◌, ◌<◌, ◌≤◌, ◌&&◌, nat_eq, nat_lt, Bool, true, false, not, cond, length, refl, ap, sym, ◌∙◌, subst, arith}
use Rattle.std.proofs.lemmas.Bool.{and_parts, eq-eqb, ne_eqb, lt-ltb, le-ltb}
use Rattle.rcu_jobs.specs.declared.DriverTurn.{DriverTurn}
use Rattle.rcu_jobs.specs.declared.DriverTurn.TheVariants as drivers
use Rattle.rcu_numbers.specs.declared.sequence.TheConstants.{GREATEST_NUMBER}
use Rattle.rcu_world_law.specs.Invariant.{IsCore}
use Rattle.rcu_world_law.specs.Lists.{none_owes}
use Rattle.rcu_world_law.specs.States.{State}
use Rattle.rcu_world_law.specs.Events.{is_enabled, run}
use Rattle.rcu_world_law.specs.Events.CoreEvent.{Start, End}
use Rattle.rcu_world.specs.Turns.{Leads, where_enabled, driver_events, driver_answer, end_events, first_waited, meets, upto}
use Rattle.rcu_world.proofs.Leading.{leads_then}
use Rattle.rcu_world.proofs.Meeting.{Met, all_met, met, quiet_where_none, waited_most}

abbrev pub answer_of : State → Bool → Bool → Bool → Bool → DriverTurn
answer_of w idle wanted fits all =
    cond idle (cond (not wanted) drivers.Idle (cond fits (drivers.Started (w.number + 1)) drivers.Spent)) (cond all (drivers.Ended (w.number + 3)) (drivers.Waits (first_waited w)))

abbrev is_last : State → Bool
is_last w = nat_eq (first_waited w) (length w.cpus)

answered : (w : State) (idle wanted fits all : Bool) → nat_eq (w.number % 4) 0 ≡ idle → nat_lt w.number w.needed ≡ wanted → nat_lt w.number GREATEST_NUMBER ≡ fits → is_last w ≡ all
    → answer_of w idle wanted fits all ≡ driver_answer w
answered w idle wanted fits all i a f n = sym (
    ap (λ b. answer_of w b (nat_lt w.number w.needed) (nat_lt w.number GREATEST_NUMBER) (is_last w)) i
    ∙ ap (λ b. answer_of w idle b (nat_lt w.number GREATEST_NUMBER) (is_last w)) a
    ∙ ap (λ b. answer_of w idle wanted b (is_last w)) f
    ∙ ap (answer_of w idle wanted fits) n)

-- the second test fails where the first one holds
second_false : (a b : Bool) → a ≡ true → (a && b) ≡ false → b ≡ false
second_false true b h e = e
second_false false b h e = absurd cc

-- the number that the driver read is the state's
idle : (w : State) (number : ℕ) → number ≡ w.number → number % 4 ≡ 0 → w.number % 4 ≡ 0
idle w number n z = ap (λ x. x % 4) (sym n) ∙ z

pub in_progress : (w : State) (number : ℕ) → number ≡ w.number → (number % 4 ≡ 0 → ⊥) → w.number % 4 ≤ 1 → w.number % 4 ≡ 1
in_progress w number n d p =
    let b : w.number % 4 ≡ 0 → ⊥ = λ z. d (ap (λ x. x % 4) n ∙ z) in
    omega (arith, p, b)

busy : (w : State) → w.number % 4 ≡ 1 → w.number % 4 ≡ 0 → ⊥
busy w o z = omega (arith, o, z)

pub driver_ends : (w new : State) → w.number % 4 ≡ 1 → Leads w (end_events w) new → Leads w (driver_events w) new
driver_ends w new o l = subst (λ b. Leads w (cond b (where_enabled Start w) (end_events w)) new) (sym (ne_eqb (w.number % 4) 0 (busy w o))) l

-- what is met before the end
met_by : (w m : State) (first : ℕ) → first ≡ first_waited w → IsCore w → Leads w (upto meets first w) m → Met (first_waited w) w m
met_by w m first f k l =
    subst (Met (first_waited w) w) (sym (l.state ∙ ap (λ x. run (upto meets x w) w) f)) (met (first_waited w) w (waited_most w) k.board.size)

pub ends_after : (w m new : State) (first : ℕ) → first ≡ first_waited w → Leads w (upto meets first w) m → Leads m (where_enabled End m) new → Leads w (end_events w) new
ends_after w m new first f l e = leads_then (upto meets (first_waited w)) (where_enabled End) w m new (subst (λ x. Leads w (upto meets x w) m) f l) e

pub answers_ended : (w m : State) (number first : ℕ) → number ≡ w.number → w.number % 4 ≡ 1 → first ≡ first_waited w → IsCore w → Leads w (upto meets first w) m
    → is_enabled m End ≡ true → drivers.Ended (number + 3) ≡ driver_answer w
answers_ended w m number first n o f k l e =
    let all = all_met w m (met_by w m first f k l) (and_parts (nat_eq (m.number % 4) 1) (none_owes m.owing) e).1 in
    ap (λ x. drivers.Ended (x + 3)) n
    ∙ answered w false (nat_lt w.number w.needed) (nat_lt w.number GREATEST_NUMBER) true (ne_eqb (w.number % 4) 0 (busy w o)) refl refl (eq-eqb (first_waited w) (length w.cpus) all)

pub answers_waits : (w m : State) (first : ℕ) → w.number % 4 ≡ 1 → first ≡ first_waited w → IsCore w → Leads w (upto meets first w) m
    → is_enabled m End ≡ false → drivers.Waits first ≡ driver_answer w
answers_waits w m first o f k l e =
    let i = met_by w m first f k l in
    let none : none_owes m.owing ≡ false = second_false (nat_eq (m.number % 4) 1) (none_owes m.owing) (eq-eqb (m.number % 4) 1 (ap (λ x. x % 4) i.number ∙ o)) e in
    ap drivers.Waits f
    ∙ answered w false (nat_lt w.number w.needed) (nat_lt w.number GREATEST_NUMBER) false (ne_eqb (w.number % 4) 0 (busy w o)) refl refl
    (ne_eqb (first_waited w) (length w.cpus) (λ all. let z : true ≡ false = sym (quiet_where_none w m i k.board.size all) ∙ none in cc))

pub answers_started : (w : State) (number : ℕ) → number ≡ w.number → number % 4 ≡ 0 → is_enabled w Start ≡ true → drivers.Started (number + 1) ≡ driver_answer w
answers_started w number n z e =
    let h = and_parts (nat_lt w.number w.needed) (nat_lt w.number GREATEST_NUMBER) (and_parts (nat_eq (w.number % 4) 0) (nat_lt w.number w.needed && nat_lt w.number GREATEST_NUMBER) e).1 in
    ap (λ x. drivers.Started (x + 1)) n ∙ answered w true true true (is_last w) (eq-eqb (w.number % 4) 0 (idle w number n z)) h.0 h.1 refl

pub answers_spent : (w : State) (number : ℕ) → number ≡ w.number → number % 4 ≡ 0 → is_enabled w Start ≡ false → number < w.needed → drivers.Spent ≡ driver_answer w
answers_spent w number n z e l =
    let i = eq-eqb (w.number % 4) 0 (idle w number n z) in
    let a = lt-ltb w.number w.needed (subst (λ x. x < w.needed) n l) in
    let f = second_false (nat_lt w.number w.needed) (nat_lt w.number GREATEST_NUMBER) a (second_false (nat_eq (w.number % 4) 0) (nat_lt w.number w.needed && nat_lt w.number GREATEST_NUMBER) i e) in
    answered w true true false (is_last w) i a f refl

pub answers_idle : (w : State) (number : ℕ) → number ≡ w.number → number % 4 ≡ 0 → w.needed ≤ number → drivers.Idle ≡ driver_answer w
answers_idle w number n z l = answered w true false (nat_lt w.number GREATEST_NUMBER) (is_last w) (eq-eqb (w.number % 4) 0 (idle w number n z)) (le-ltb w.number w.needed (subst (λ x. w.needed ≤ x) n l)) refl refl

pub driver_starts : (w new : State) (number : ℕ) → number ≡ w.number → number % 4 ≡ 0 → Leads w (where_enabled Start w) new → Leads w (driver_events w) new
driver_starts w new number n z l = subst (λ b. Leads w (cond b (where_enabled Start w) (end_events w)) new) (sym (eq-eqb (w.number % 4) 0 (idle w number n z))) l
