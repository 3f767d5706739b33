-- One poll after another: steps on turn words alone.
use Rattle.std.proofs.Common.{◌≡◌, ℕ, ◌+◌, ◌≤◌, ◌∙◌, Option, Some, None, refl, subst, arith}
use Rattle.rcu_board.specs.Words.{turns_word}
use Rattle.rcu_board.specs.declared.view.View.{View}
use Rattle.rcu_jobs.specs.declared.Counts.{Counts}
use Rattle.rcu_jobs.specs.declared.Passed.{Passed}
use Rattle.rcu_part_control.specs.Barriers.{PollsBy}
use Rattle.rcu_part_control.specs.declared.barrier.Barrier.{Barrier}
use Rattle.rcu_board.specs.Frames.{StepsOnEach, StepsWithin}
use Rattle.rcu_board.proofs.Stepping.{untouched_again}

pub within_itself : (word_of : ℕ → ℕ) (n : ℕ) (v : View) → StepsWithin word_of n v v
within_itself word_of n v = record {
  lists = record { own = refl; claims = refl; running = refl };
  others = λ i none. record { seen = refl; steps = refl };
}

pub within_again : (word_of : ℕ → ℕ) (n : ℕ) (u v w : View) → StepsWithin word_of n u v → StepsWithin word_of n v w → StepsWithin word_of n u w
within_again word_of n u v w a b = record {
  lists = record { own = b.lists.own ∙ a.lists.own; claims = b.lists.claims ∙ a.lists.claims; running = b.lists.running ∙ a.lists.running };
  others = λ i none. untouched_again i u v w (a.others i none) (b.others i none);
}

-- a step on each of some first words is within more of them
first_within : (word_of : ℕ → ℕ) (m n : ℕ) (v w : View) → m ≤ n → StepsOnEach word_of m v w → StepsWithin word_of n v w
first_within word_of m n v w few e = record { lists = e.lists; others = λ i none. e.others i (λ p low. none p (omega (arith, low, few))) }

-- a poll reads turn words, whatever it answers
pub polled_within : (counts : Counts) (passed : Option Passed) (v w : View) → PollsBy counts passed v w → StepsWithin turns_word counts.n v w
polled_within counts None v w h = first_within turns_word (h.cpu + 1) counts.n v w (omega (arith, h.there)) h.steps
polled_within counts (Some passed) v w h = first_within turns_word counts.n counts.n v w (omega arith) h.1.steps

-- one poll more of the same barrier
pub polled_on : (now first : Barrier) (passed : Option Passed) (u v w : View) → now ≡ first → StepsWithin turns_word first.counts.n u v → PollsBy now.counts passed v w → StepsWithin turns_word first.counts.n u w
polled_on now first passed u v w is before polls =
    within_again turns_word first.counts.n u v w before (polled_within first.counts passed v w (subst (λ (b : Barrier). PollsBy b.counts passed v w) is polls))
