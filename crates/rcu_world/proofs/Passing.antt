-- What a barrier saw, and what it kept
use Rattle.std.proofs.Common.{◌≡◌, ℕ, zero, suc, ◌<◌, ◌++◌, ◌∷◌, [], Bool, true, false, cond, not, nat_lt, List, length, Some, get_or, refl, ap, sym, ◌∙◌, subst, arith}
use Rattle.std.proofs.lemmas.Bool.{and_parts, ltb-true}
use Rattle.std.proofs.lemmas.List.{get_or-set_same, length-set}
use Rattle.rcu_world_law.specs.declared.marks.Mark.TheVariants.{Passed}
use Rattle.rcu_world_law.specs.Events.{CoreEvent, is_enabled, after}
use Rattle.rcu_world_law.specs.Events.CoreEvent.{Turn, Pass}
use Rattle.rcu_world_law.specs.Lists.{all_of, value_or}
use Rattle.rcu_world_law.specs.States.{State, no_barrier, barrier_at, is_open}
use Rattle.rcu_world_law.specs.Invariant.{IsCore}
use Rattle.rcu_world.specs.Polls.{AreTaken, HasKept, is_seen, turns_for}
use Rattle.rcu_world.proofs.Leading.{leads_nothing}
use Rattle.rcu_world.specs.Turns.{Leads, where_enabled}

-- an event that was enabled, and one that wasn't
pub leads_after : (w new : State) (e : CoreEvent) → is_enabled w e ≡ true → Leads w (where_enabled e w) new → new ≡ after w e
leads_after w new e h l =
    let m : Leads w (e ∷ []) new = subst (λ b. Leads w (cond b (e ∷ []) []) new) h l in
    m.state ∙ ap (λ b. cond b (after w e) w) h

pub leads_same : (w new : State) (e : CoreEvent) → is_enabled w e ≡ false → Leads w (where_enabled e w) new → new ≡ w
leads_same w new e h l =
    let m : Leads w [] new = subst (λ b. Leads w (cond b (e ∷ []) []) new) h l in
    m.state

turned_history : (w new : State) (b p : ℕ) (x : Bool) → is_enabled w (Turn b p) ≡ x → Leads w (where_enabled (Turn b p) w) new → new.history ≡ w.history
turned_history w new b p true h l = ap (λ v. v.history) (leads_after w new (Turn b p) h l)
turned_history w new b p false h l = ap (λ v. v.history) (leads_same w new (Turn b p) h l)

-- to see a processor adds no mark
pub history_turned : (w new : State) (b p : ℕ) → Leads w (where_enabled (Turn b p) w) new → new.history ≡ w.history
history_turned w new b p l = turned_history w new b p (is_enabled w (Turn b p)) refl l

all_at : (bs : List Bool) (p : ℕ) → all_of bs ≡ true → p < length bs → get_or bs p false ≡ true
all_at [] p h l = absurd (omega arith)
all_at (b ∷ bs) zero h l = (and_parts b (all_of bs) h).0
all_at (b ∷ bs) (suc p) h l = all_at bs p (and_parts b (all_of bs) h).1 (omega arith)

-- a barrier that passes: the new mark, and the counts that it took
pub passed_marks : (mid new : State) (b : ℕ) → is_enabled mid (Pass b) ≡ true → Leads mid (where_enabled (Pass b) mid) new → new.history ≡ mid.history ++ Passed b ∷ []
passed_marks mid new b h l = ap (λ x. x.history) (leads_after mid new (Pass b) h l)

pub passed_there : (mid new : State) (b : ℕ) → is_enabled mid (Pass b) ≡ true → Leads mid (where_enabled (Pass b) mid) new → b < length new.barriers
passed_there mid new b h l =
    let o = and_parts (is_open mid b) (all_of (barrier_at mid b).seen) h in
    let t = ltb-true b (length mid.barriers) (and_parts (nat_lt b (length mid.barriers)) (not (barrier_at mid b).passed) o.0).0 in
    subst (λ x. b < length x.barriers) (sym (leads_after mid new (Pass b) h l)) (subst (λ n. b < n) (sym (length-set mid.barriers b (record (barrier_at mid b) { passed = true }))) t)

pub passed_counts : (mid new : State) (b n : ℕ) (counts : List ℕ) → IsCore new → is_enabled mid (Pass b) ≡ true → Leads mid (where_enabled (Pass b) mid) new
    → n ≡ length new.cpus → HasKept (barrier_at new b) (length new.cpus) counts → AreTaken (barrier_at new b) (length new.cpus) n counts
passed_counts mid new b n counts k h l e s =
    let t : b < length new.barriers = passed_there mid new b h l in
    let o = and_parts (is_open mid b) (all_of (barrier_at mid b).seen) h in
    let m = ltb-true b (length mid.barriers) (and_parts (nat_lt b (length mid.barriers)) (not (barrier_at mid b).passed) o.0).0 in
    let v : barrier_at new b ≡ record (barrier_at mid b) { passed = true } =
    ap (λ x. barrier_at x b) (leads_after mid new (Pass b) h l) ∙ get_or-set_same mid.barriers b (record (barrier_at mid b) { passed = true }) no_barrier m in
    let a : all_of (barrier_at new b).seen ≡ true = ap (λ x. all_of x.seen) v ∙ o.1 in
    let i = k.barrier b t in
    record {
      all = e;
      each = λ p q. let c = i.seen p (all_at (barrier_at new b).seen p a (subst (λ z. p < z) (sym i.seens) q)) in
          c.1 ∙ ap Some (sym (s p q ∙ ap value_or c.1));
    }

-- a processor that was seen before, and one that wasn't
pub seen_skipped : (w : State) (b p : ℕ) → is_seen w b p ≡ true → Leads w (turns_for b p w) w
seen_skipped w b p h = subst (λ x. Leads w (cond x [] (where_enabled (Turn b p) w)) w) (sym h) (leads_nothing w w refl)

pub seen_turned : (w new : State) (b p : ℕ) → is_seen w b p ≡ false → Leads w (where_enabled (Turn b p) w) new → Leads w (turns_for b p w) new
seen_turned w new b p h l = subst (λ x. Leads w (cond x [] (where_enabled (Turn b p) w)) new) (sym h) l
