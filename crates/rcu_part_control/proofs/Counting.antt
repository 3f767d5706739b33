-- Counts that are read, or made final, one after another.
use Rattle.std.proofs.Common.{◌≡◌, ℕ, ◌+◌, ◌*◌, ◌/◌, ◌<◌, ◌≤◌, length, ap, sym, ◌∙◌, arith, subst, get_or-set_same, get_or-set_other, slice_set}
use mathlib.Core.Logic.{dite}
use native.Mathlib.Decide.{ℕ_discrete}
use Rattle.rcu_board.specs.Words.{accepts_word, turns_word}
use Rattle.rcu_board.specs.Views.{seen_at}
use Rattle.rcu_board.specs.Plays.{touched}
use Rattle.rcu_board.specs.Seats.{view, count_of_own}
use Rattle.rcu_board.specs.declared.board.Role.TheVariants.{Processor}
use Rattle.rcu_board.specs.declared.board.Seat.{Seat}
use Rattle.rcu_board.specs.declared.view.View.{View}
use Rattle.rcu_jobs.specs.declared.Counts.{Counts}
use Rattle.rcu_part_control.specs.Barriers.{ReadsCounts, CountsItsOwn, count_at}
use Rattle.rcu_part_control.specs.Control.{Shuts}
use Rattle.rcu_board.proofs.Stepping.{HasWords, seen_here, steps_on_next, steps_on_none, earlier_stays, accepts_differ, turns_differ}

-- What is said of the first p words stays true, and of the next one it is said too.
also_next : (C : ℕ → Type 0) (p : ℕ) → ((q : ℕ) → q < p → C q) → C p → (q : ℕ) → q < p + 1 → C q
also_next C p all one q low = dite (ℕ_discrete q p) (λ is. subst C (sym is) one) (λ not. all q (omega (arith, not)))

pub reads_none : (counts : Counts) (v : View) → ReadsCounts 0 counts v v
reads_none counts v = record { steps = steps_on_none accepts_word v; halves = λ p low. absurd (omega arith) }

pub reads_next : (k p x : ℕ) (counts after : Counts) (v u : View) → HasWords k u → accepts_word p < k → p < 1024 → length counts.counts ≡ 1024 → after.counts ≡ slice_set counts.counts p (x / 2)
    → ReadsCounts p counts v u → ReadsCounts (p + 1) after v (touched (accepts_word p) x u)
reads_next k p x counts after v u words low few long set e = record {
  steps = steps_on_next accepts_word k p x v u accepts_differ words low e.steps;
  halves = also_next (λ q. count_at after q ≡ seen_at (touched (accepts_word p) x u) (accepts_word q) / 2) p
      (λ q lower. ap (λ xs. Rattle.std.specs.Prelude.slice_index xs q) set ∙ (get_or-set_other counts.counts p q (x / 2) 0 (λ same. absurd (omega (arith, same)))
      ∙ (e.halves q lower ∙ ap (λ (s : ℕ). s / 2) (sym (earlier_stays accepts_word p q x u accepts_differ lower)))))
      (ap (λ xs. Rattle.std.specs.Prelude.slice_index xs p) set ∙ (get_or-set_same counts.counts p (x / 2) 0 (omega (arith, long))
      ∙ ap (λ (s : ℕ). s / 2) (sym (seen_here k (accepts_word p) x u words low))));
}

pub own_next : (p x : ℕ) (counts after : Counts) (s : Seat) → p < 1024 → length counts.counts ≡ 1024 → after.counts ≡ slice_set counts.counts p (x / 2)
    → CountsItsOwn p counts s → (s.role ≡ Processor p → x / 2 ≡ count_of_own (view s)) → CountsItsOwn (p + 1) after s
own_next p x counts after s few long set e one = also_next (λ q. s.role ≡ Processor q → count_at after q ≡ count_of_own (view s)) p
    (λ q lower is. ap (λ xs. Rattle.std.specs.Prelude.slice_index xs q) set ∙ (get_or-set_other counts.counts p q (x / 2) 0 (λ same. absurd (omega (arith, same))) ∙ e q lower is))
    (λ is. ap (λ xs. Rattle.std.specs.Prelude.slice_index xs p) set ∙ (get_or-set_same counts.counts p (x / 2) 0 (omega (arith, long)) ∙ one is))

pub shuts_none : (counts : Counts) (v : View) → Shuts 0 counts v v
shuts_none counts v = record { steps = steps_on_none accepts_word v; shut = λ p low. absurd (omega arith) }

pub shuts_next : (k p x : ℕ) (counts after : Counts) (v u : View) → HasWords k u → accepts_word p < k → p < 1024 → length counts.counts ≡ 1024 → after.counts ≡ slice_set counts.counts p x
    → Shuts p counts v u → Shuts (p + 1) after v (touched (accepts_word p) (2 * x + 1) u)
shuts_next k p x counts after v u words low few long set e = record {
  steps = steps_on_next accepts_word k p (2 * x + 1) v u accepts_differ words low e.steps;
  shut = also_next (λ q. seen_at (touched (accepts_word p) (2 * x + 1) u) (accepts_word q) ≡ 2 * count_at after q + 1) p
      (λ q lower. earlier_stays accepts_word p q (2 * x + 1) u accepts_differ lower ∙ (e.shut q lower
      ∙ ap (λ (s : ℕ). 2 * s + 1) (sym (ap (λ xs. Rattle.std.specs.Prelude.slice_index xs q) set ∙ get_or-set_other counts.counts p q x 0 (λ same. absurd (omega (arith, same)))))))
      (seen_here k (accepts_word p) (2 * x + 1) u words low ∙ ap (λ (s : ℕ). 2 * s + 1) (sym (ap (λ xs. Rattle.std.specs.Prelude.slice_index xs p) set ∙ get_or-set_same counts.counts p x 0 (omega (arith, long)))));
}

-- the next turn word, where those before it are at least twice their counts
pub over_next : (k p x : ℕ) (counts : Counts) (u : View) → HasWords k u → turns_word p < k → 2 * count_at counts p ≤ x
    → ((q : ℕ) → q < p → 2 * count_at counts q ≤ seen_at u (turns_word q)) → (q : ℕ) → q < p + 1 → 2 * count_at counts q ≤ seen_at (touched (turns_word p) x u) (turns_word q)
over_next k p x counts u words low over before = also_next (λ q. 2 * count_at counts q ≤ seen_at (touched (turns_word p) x u) (turns_word q)) p
    (λ q lower. subst (λ (s : ℕ). 2 * count_at counts q ≤ s) (sym (earlier_stays turns_word p q x u turns_differ lower)) (before q lower))
    (subst (λ (s : ℕ). 2 * count_at counts p ≤ s) (sym (seen_here k (turns_word p) x u words low)) over)
