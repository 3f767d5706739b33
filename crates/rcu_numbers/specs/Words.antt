-- The board's word: the number in bits 32 to 62, over a mask of 32 bits with one for each processor that owes a
-- report. docs/specification/rules.md, "Quiescent reports".
use Rattle.std.specs.Prelude.{◌≡◌, ℕ, ◌+◌, ◌-◌, ◌*◌, ◌/◌, ◌%◌, ◌^◌}
use Rattle.std.specs.Int.{bit_at, bit_not}
use Rattle.std.proofs.Common.{w64}

-- what a word says: the grace-period number, and the mask of the processors that owe a report
pub record Board : Type 0 where
  pub seq : ℕ
  pub mask : ℕ

abbrev pub number_of : ℕ → ℕ
number_of word = word / 4294967296

abbrev pub mask_of : ℕ → ℕ
mask_of word = word % 4294967296

abbrev pub packed : ℕ → ℕ → ℕ
packed seq mask = seq * 4294967296 + mask

abbrev pub board_of : ℕ → Board
board_of word = record { seq = number_of word; mask = mask_of word }

-- 1 where processor p owes a report in this word or mask, else 0
unfoldable pub owes_of : ℕ → ℕ → ℕ
owes_of word p = bit_at word p

-- processor p owes a report
abbrev pub Owes : Board → ℕ → Type 0
Owes board p = owes_of board.mask p ≡ 1

-- the mask of the first n processors
abbrev pub all_of : ℕ → ℕ
all_of n = 2 ^ n - 1

-- the word with which a report of p is joined, bit by bit: all bits but p's
unfoldable pub all_but_of : ℕ → ℕ
all_but_of p = bit_not w64 (1 * 2 ^ p % 2 ^ 64)
