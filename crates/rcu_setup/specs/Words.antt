-- The small words of the grammar: docs/specification/tables.md, "Names and hops". A text is the list of its bytes.
use Rattle.std.specs.Prelude.{ℕ, Bool, ◌&&◌, ◌||◌, ◌==◌, nat_lt, nat_le, List, length, Option, Some, None, if◌then◌else◌, option_and_then}
use Rattle.std.specs.List.{slice_split, list_all, before_first, after_first, position_or_len}
use Rattle.std.specs.Str.{all_ascii_digits}
use Rattle.std.specs.Str.Parse.{digits_value}

-- what follows a value that is there
infixl 10 ◌>>=◌
abbrev pub ◌>>=◌ : {A B : Type 0} → Option A → (A → Option B) → Option B
o >>= f = option_and_then f o

-- the parts of a text between the bytes `by`
abbrev pub parts : ℕ → List ℕ → List (List ℕ)
parts by text = slice_split (λ b. b == by) text

-- the value of one to `most` ASCII digits
unfoldable pub number : ℕ → List ℕ → Option ℕ
number most text = if (nat_lt 0 (length text) && nat_le (length text) most) && all_ascii_digits text then Some (digits_value 10 text) else None

-- HOP, one to nine digits
unfoldable pub hop : List ℕ → Option ℕ
hop text = number 9 text

-- `a` to `z`, or a digit
abbrev pub is_name_byte : ℕ → Bool
is_name_byte b = (nat_le 97 b && nat_le b 122) || (nat_le 48 b && nat_le b 57)

-- NAME, 1 to 16 characters of `a` to `z` and `0` to `9`
abbrev pub is_name : List ℕ → Bool
is_name text = (nat_lt 0 (length text) && nat_le (length text) 16) && list_all is_name_byte text

-- a name and its hop
abbrev pub Route : Type 0
Route = List ℕ × ℕ

abbrev pub with_hop : List ℕ → Option ℕ → Option Route
with_hop name None = None
with_hop name (Some n) = if is_name name then Some (name, n) else None

-- NAME=HOP, which is cut at its first `=`
unfoldable pub route : List ℕ → Option Route
route text =
    if position_or_len (λ b. b == 61) text == length text then None
    else with_hop (before_first (λ b. b == 61) text) (hop (after_first (λ b. b == 61) text))
