-- CPU lists: docs/specification/tables.md, "CPU list".
use Rattle.std.specs.Prelude.{◌≡◌, ◌<◌, ◌≤◌, ◌⊎◌, ℕ, ◌+◌, ◌-◌, ◌^◌, Bool, ◌==◌, nat_lt, nat_le, List, [], ◌∷◌, length, Option, Some, None, is_some, Result, Ok, Err, if◌then◌else◌, option_map, codes, bit_or}
use Rattle.std.specs.List.{list_all, before_first, after_first, position_or_len}
use Rattle.std.specs.Str.{bytes_eq}
use Rattle.rcu_setup.specs.Words.{◌>>=◌, parts, number}
use Rattle.rcu_setup.specs.Faults.{Fault, bad_list, reversed, no_processor, ◌>>◌}

-- the numbers of an item, from the first to the last
abbrev pub Range : Type 0
Range = ℕ × ℕ

-- NUM, or NUM-NUM, which is cut at its first `-`
unfoldable pub range_of : List ℕ → Option Range
range_of part =
    if position_or_len (λ b. b == 45) part == length part then option_map (λ n. (n, n)) (number 4 part)
    else number 4 (before_first (λ b. b == 45) part) >>= (λ first. option_map (λ last. (first, last)) (number 4 (after_first (λ b. b == 45) part)))

-- the mask with the bits of the range
abbrev pub ones : Range → ℕ
ones r = 2 ^ (r.1 + 1) - 2 ^ r.0

-- the mask with one more range, or what is wrong with it among n processors
unfoldable pub with_range : ℕ → ℕ → Range → Result ℕ Fault
with_range n mask r =
    if nat_lt r.1 r.0 then Err (reversed r.0 r.1)
    else if nat_le n r.1 then Err (no_processor r.1)
    else Ok (bit_or mask (ones r))

-- the same for a part of the text
abbrev pub with_range_at : ℕ → ℕ → Option Range → Result ℕ Fault
with_range_at n mask None = Err bad_list
with_range_at n mask (Some r) = with_range n mask r

-- from left to right
abbrev pub with_parts : ℕ → ℕ → List (List ℕ) → Result ℕ Fault
with_parts n mask [] = Ok mask
with_parts n mask (part ∷ more) = with_range_at n mask (range_of part) >> (λ wider. with_parts n wider more)

-- each part is an item
abbrev pub are_items : List ℕ → Bool
are_items text = list_all (λ part. is_some (range_of part)) (parts 44 text)

-- The whole text is matched first: empty, `all`, or items joined by `,`.
abbrev pub cpu_list_of : ℕ → List ℕ → Result ℕ Fault
cpu_list_of n text =
    if length text == 0 then Ok 0
    else if bytes_eq text (codes "all") then Ok (2 ^ n - 1)
    else if are_items text then with_parts n 0 (parts 44 text)
    else Err bad_list

-- ---- the same, as a relation

-- p is a number of the item
abbrev pub HasPlace : ℕ → Option Range → Type 0
HasPlace p None = ⊥
HasPlace p (Some r) = (r.0 ≤ p) × (p ≤ r.1)

-- p is a number of one of the items
abbrev pub IsListed : ℕ → List (List ℕ) → Type 0
IsListed p [] = ⊥
IsListed p (part ∷ more) = HasPlace p (range_of part) ⊎ IsListed p more

-- the text names p, of n processors
abbrev pub IsNamed : ℕ → List ℕ → ℕ → Type 0
IsNamed n text p = ((text ≡ codes "all") × (p < n)) ⊎ IsListed p (parts 44 text)
