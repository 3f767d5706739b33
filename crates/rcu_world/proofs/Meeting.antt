-- What the driver's reports for who is away make of the core
use Rattle.std.proofs.Common.{◌≡◌, ℕ, zero, suc, ◌<◌, ◌≤◌, ◌&&◌, not, Bool, true, false, cond, List, [], ◌∷◌, length, get_or, set, inl, inr, refl, ap, sym, ◌∙◌, subst, arith}
use Rattle.std.proofs.lemmas.Bool.{and_parts, cases_eq, cases_lt, lt-ltb}
use Rattle.std.proofs.lemmas.List.{get_or-set_same, get_or-set_other, length-set}
use Rattle.rcu_world_law.specs.Events.{is_enabled, after, run}
use Rattle.rcu_world_law.specs.Events.CoreEvent.{Meet}
use Rattle.rcu_world_law.specs.Lists.{none_owes}
use Rattle.rcu_world_law.specs.States.{State, cpu_at, empty_cpu, has, owes}
use Rattle.rcu_world.specs.Turns.{and_then, first_waited, meets, upto, waits_for}
use Rattle.rcu_world.proofs.FirstOf.{first_meets, first_most, none_before}
use Rattle.rcu_world.proofs.Leading.{run_append}
use Rattle.rcu_world.proofs.Sizes.{second_fails}

-- of the first k only those owe a report that are here, and all else is as it was
pub record Met (k : ℕ) (w m : State) : Type 0 where
  pub number : m.number ≡ w.number
  pub cpus : m.cpus ≡ w.cpus
  pub size : length m.owing ≡ length w.owing
  pub before : (q : ℕ) → q < k → owes m q ≡ waits_for w q
  pub beyond : (q : ℕ) → k ≤ q → owes m q ≡ owes w q

pub and_true : (a b : Bool) → b ≡ true → (a && b) ≡ a
and_true true b h = h
and_true false b h = refl

-- who isn't met, and owes, is here
unmet : (a o : Bool) → (a && o) ≡ false → o ≡ (o && not a)
unmet true true e = absurd (let z : true ≡ false = e in cc)
unmet true false e = refl
unmet false true e = refl
unmet false false e = refl

met_more : (k : ℕ) (w m : State) (b : Bool) → k < length w.cpus → length w.owing ≡ length w.cpus → Met k w m → is_enabled m (Meet k) ≡ b
    → Met (suc k) w (run (cond b (Meet k ∷ []) []) m)
met_more k w m true l s i h =
    let a : (cpu_at m k).away ≡ true = (and_parts (cpu_at m k).away (owes m k) (and_parts (has m k) ((cpu_at m k).away && owes m k) h).1).0 in
    let away : (cpu_at w k).away ≡ true = ap (λ cs. (get_or cs k empty_cpu).away) (sym i.cpus) ∙ a in
    let none : waits_for w k ≡ false = second_fails (owes w k) (not (cpu_at w k).away) (ap not away) in
    subst (Met (suc k) w) (sym (ap (λ b. cond b (after m (Meet k)) m) h)) (record {
      number = i.number;
      cpus = i.cpus;
      size = length-set m.owing k false ∙ i.size;
      before = λ q d. elim (cases_eq q k) [
        | inl e ↦ subst (λ x. get_or (set m.owing k false) x false ≡ waits_for w x) (sym e)
            (get_or-set_same m.owing k false false (omega (arith, l, s, i.size)) ∙ sym none)
        | inr n ↦ get_or-set_other m.owing k q false false n ∙ i.before q (omega (arith, d, n))
      ];
      beyond = λ q d. get_or-set_other m.owing k q false false (λ e. omega (arith, d, e)) ∙ i.beyond q (omega (arith, d));
    })
met_more k w m false l s i h =
    let there : has m k ≡ true = lt-ltb k (length m.cpus) (subst (λ cs. k < length cs) (sym i.cpus) l) in
    let not_met : ((cpu_at m k).away && owes m k) ≡ false = sym (ap (λ b. b && ((cpu_at m k).away && owes m k)) there) ∙ h in
    let o : owes m k ≡ owes w k = i.beyond k (omega arith) in
    let same : owes m k ≡ waits_for w k =
    unmet (cpu_at m k).away (owes m k) not_met ∙ ap (λ b. b && not (cpu_at m k).away) o ∙ ap (λ cs. owes w k && not (get_or cs k empty_cpu).away) i.cpus in
    record {
      number = i.number;
      cpus = i.cpus;
      size = i.size;
      before = λ q d. elim (cases_eq q k) [
        | inl e ↦ subst (λ x. owes m x ≡ waits_for w x) (sym e) same
        | inr n ↦ i.before q (omega (arith, d, n))
      ];
      beyond = λ q d. i.beyond q (omega (arith, d));
    }

pub met : (k : ℕ) (w : State) → k ≤ length w.cpus → length w.owing ≡ length w.cpus → Met k w (run (upto meets k w) w)
unfolding and_then
met zero w l s = record { number = refl; cpus = refl; size = refl; before = λ q d. absurd (omega (arith, d)); beyond = λ q d. refl }
met (suc k) w l s =
    let m = run (upto meets k w) w in
    subst (Met (suc k) w) (sym (run_append (upto meets k w) (meets k (run (upto meets k w) w)) w))
    (met_more k w (run (upto meets k w) w) (is_enabled (run (upto meets k w) w) (Meet k)) (omega (arith, l)) s (met k w (omega (arith, l)) s) refl)

all_quiet : (bs : List Bool) → ((q : ℕ) → q < length bs → get_or bs q false ≡ false) → none_owes bs ≡ true
all_quiet [] n = refl
all_quiet (b ∷ bs) n = ap (λ x. not x && none_owes bs) (n 0 (omega arith)) ∙ all_quiet bs (λ q l. n (suc q) (omega (arith, l)))

one_owes : (bs : List Bool) (q : ℕ) → get_or bs q false ≡ true → none_owes bs ≡ false
one_owes [] q h = absurd (let z : false ≡ true = h in cc)
one_owes (b ∷ bs) zero h = ap (λ x. not x && none_owes bs) h
one_owes (b ∷ bs) (suc q) h = second_fails (not b) (none_owes bs) (one_owes bs q h)

-- once all before the first that is waited for are met, none owes a report exactly where there is no such one
pub quiet_where_none : (w m : State) → Met (first_waited w) w m → length w.owing ≡ length w.cpus → first_waited w ≡ length w.cpus → none_owes m.owing ≡ true
quiet_where_none w m i s e = all_quiet m.owing (λ q l.
    let b : q < first_waited w = omega (arith, l, s, e, i.size) in
    i.before q b ∙ none_before (waits_for w) (length w.cpus) q b)

pub owed_where_one : (w m : State) → Met (first_waited w) w m → first_waited w < length w.cpus → none_owes m.owing ≡ false
owed_where_one w m i l = one_owes m.owing (first_waited w) (i.beyond (first_waited w) (omega arith)
    ∙ (and_parts (owes w (first_waited w)) (not (cpu_at w (first_waited w)).away) (first_meets (waits_for w) (length w.cpus) l)).0)

pub waited_most : (w : State) → first_waited w ≤ length w.cpus
waited_most w = first_most (waits_for w) (length w.cpus)

pub all_met : (w m : State) → Met (first_waited w) w m → none_owes m.owing ≡ true → first_waited w ≡ length w.cpus
all_met w m i h = elim (cases_lt (first_waited w) (length w.cpus)) [
  | inl l ↦ absurd (let z : false ≡ true = sym (owed_where_one w m i l) ∙ h in cc)
  | inr g ↦ omega (arith, g, waited_most w)
]
