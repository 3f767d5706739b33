-- Sets of processors, as numbers: bit p stands for processor p.
use Rattle.std.specs.Prelude.{ℕ, ◌+◌, ◌*◌, ◌%◌, List, [], ◌∷◌}

-- the number whose bits are those of words of 64 bits, the first word lowest
unfoldable pub number_of_words : List ℕ → ℕ
number_of_words [] = 0
number_of_words (w ∷ ws) = number_of_words ws * 18446744073709551616 + w % 18446744073709551616
