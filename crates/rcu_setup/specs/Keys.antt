-- The keys of a setup: docs/specification/tables.md, "Setup keys" and "Fault lines".
use Rattle.std.specs.Prelude.{ℕ, Bool, true, ◌&&◌, ◌||◌, ◌==◌, nat_lt, nat_le, List, [], ◌∷◌, length, Result, Ok, Err, if◌then◌else◌, codes}
use Rattle.std.specs.List.{list_all, list_any}
use Rattle.std.specs.Str.{bytes_eq}
use Rattle.toml.specs.Data.{Members, no_members, member}
use Rattle.rcu_setup.specs.Faults.{Fault, unknown_key}

abbrev pub key_names : List (List ℕ)
key_names = codes "processors" ∷ codes "nocbs" ∷ codes "stride" ∷ codes "blimit" ∷ codes "qhimark" ∷ codes "limit" ∷ codes "routes" ∷ codes "script" ∷ codes "calls" ∷ []

unfoldable pub is_key : List ℕ → Bool
is_key name = list_any (bytes_eq name) key_names

-- an ASCII letter or digit, `_` or `-`
abbrev pub is_key_byte : ℕ → Bool
is_key_byte b = ((nat_le 97 b && nat_le b 122) || (nat_le 65 b && nat_le b 90)) || ((nat_le 48 b && nat_le b 57) || (b == 95 || b == 45))

-- an unknown key as its fault shows it
unfoldable pub shown : List ℕ → List ℕ
shown name = if nat_lt 0 (length name) && list_all is_key_byte name then name else codes "?"

-- the first key that isn't known, in the order of the table, which is that of the bytes
abbrev pub known : Members → Result Bool Fault
known no_members = Ok true
known (member name d more) = if is_key name then known more else Err (unknown_key (shown name))
