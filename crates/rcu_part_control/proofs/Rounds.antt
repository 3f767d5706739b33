-- A round over the report words.
use Rattle.std.proofs.Common.{◌≡◌, ℕ, ◌+◌, ◌<◌, ap, ◌∙◌, arith}
use mathlib.Core.Logic.{dite}
use native.Mathlib.Decide.{ℕ_discrete}
use Rattle.rcu_board.specs.Words.{reports_word, period_of}
use Rattle.rcu_board.specs.Seats.{AllAccounted}
use Rattle.rcu_board.specs.Views.{seen_at}
use Rattle.rcu_board.specs.declared.view.View.{View}
use Rattle.rcu_board.specs.Frames.{StepsAt, StepsWithin}
use Rattle.rcu_board.proofs.Stepping.{untouched_again}

-- a step on the word of one of the n processors
pub round_next : (n k : ℕ) (u v w : View) → k < n → StepsWithin reports_word n u v → StepsAt (reports_word k) v w → StepsWithin reports_word n u w
round_next n k u v w low a b = record {
  lists = record { own = b.lists.own ∙ a.lists.own; claims = b.lists.claims ∙ a.lists.claims; running = b.lists.running ∙ a.lists.running };
  others = λ i none. untouched_again i u v w (a.others i none) (b.others i (none k low));
}

-- it leaves what was seen of the processors before it
pub before_stays : (k seq : ℕ) (v w : View) → StepsAt (reports_word k) v w → AllAccounted k seq v → AllAccounted k seq w
before_stays k seq v w b all q low = ap period_of (b.others (reports_word q) (λ e. absurd (omega (arith, low, e)))).seen ∙ all q low

pub before_next : (k seq : ℕ) (v w : View) → StepsAt (reports_word k) v w → AllAccounted k seq v → period_of (seen_at w (reports_word k)) ≡ seq → AllAccounted (k + 1) seq w
before_next k seq v w b all here q low = dite (ℕ_discrete q k)
    (λ same. ap (λ (j : ℕ). period_of (seen_at w (reports_word j))) same ∙ here)
    (λ ne. before_stays k seq v w b all q (omega (arith, low, ne)))
