-- The board of the core, as contracts see it. docs/specification/rules.md, "Quiescent reports"
use Rattle.std.specs.Prelude.{ℕ, zero, suc, ◌%◌, ◌/◌, ◌==◌, ◌<◌, ◌≤◌, ◌&&◌, nat_lt, if◌then◌else◌, Bool, List, [], ◌∷◌}
use Rattle.rcu_numbers.specs.declared.shape.TheConstants.{MOST_PROCESSORS}
use Rattle.rcu_numbers.specs.declared.sequence.TheConstants.{GREATEST_NUMBER}
use Rattle.rcu_numbers.specs.Words.{Board, Owes}

-- the grace-period number, and of each processor whether it owes a report
pub record GracePeriod : Type 0 where
  pub number : ℕ
  pub owing : List Bool

-- there are as many processors, and no other owes a report
pub record IsBoardOf (processors : ℕ) (word : Board) : Type 0 where
  pub few : processors ≤ MOST_PROCESSORS
  pub others : (p : ℕ) → processors ≤ p → p < MOST_PROCESSORS → ¬ Owes word p

-- the lowest n bits of a mask
abbrev pub bits : ℕ → ℕ → List Bool
bits zero mask = []
bits (suc n) mask = (mask % 2 == 1) ∷ bits n (mask / 2)

-- a grace period can start
abbrev pub may_start : (number needed : ℕ) → Bool
may_start number needed = (number % 4 == 0) && (nat_lt number needed && nat_lt number GREATEST_NUMBER)

-- the first of n processors that meets the test, n where none does
abbrev pub first_of : (ℕ → Bool) → ℕ → ℕ
first_of test zero = 0
first_of test (suc n) = if test 0 then 0 else suc (first_of (λ p. test (suc p)) n)
