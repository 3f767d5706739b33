-- The keys that are arrays of strings, `routes` and `script`.
use Rattle.std.specs.Prelude.{ℕ, ◌+◌, nat_le, List, [], ◌∷◌, ◌++◌, length, map, Option, Some, None, Result, Ok, Err, if◌then◌else◌, string_bytes, String, Vec}
use Rattle.std.specs.Borrow.{Bor}
use Rattle.std.specs.declared.alloc.Global.{Global}
use Rattle.toml.specs.Data.{Data, array, Items, no_items, item}
use Rattle.rcu_setup.specs.Words.{Route, parts, route}
use Rattle.rcu_setup.specs.Faults.{Fault, wrong_kind, out_of_range, bad_line, bad_route, or_fault, ◌>>◌}
use Rattle.rcu_setup.specs.Line.{Line, line_of, words_line}
use Rattle.rcu_setup.specs.Numbers.{text_in}
use Rattle.rcu_setup.specs.declared.fault.Key.{Key}
use Rattle.rcu_setup.specs.declared.line.Command.{Command}

-- the texts found, then those of the items, where each is a text
abbrev pub items_texts : Key → List (List ℕ) → Items → Result (List (List ℕ)) Fault
items_texts k found no_items = Ok found
items_texts k found (item d more) = text_in k d >> (λ s. items_texts k (found ++ s ∷ []) more)

-- the texts of an array: its kind, and its items'
abbrev pub texts_in : Key → Data → Result (List (List ℕ)) Fault
texts_in k (array ds) = items_texts k [] ds
texts_in k _ = Err (wrong_kind k)

-- at most so many: the range of an array
abbrev pub few : Key → ℕ → List (List ℕ) → Result (List (List ℕ)) Fault
few k most texts = if nat_le (length texts) most then Ok texts else Err (out_of_range k)

-- an array's texts, of which there are at most so many; none where the key is absent
unfoldable pub texts_or_none : Key → ℕ → Option Data → Result (List (List ℕ)) Fault
texts_or_none k most None = Ok []
texts_or_none k most (Some d) = texts_in k d >> few k most

-- the routes found, then those of the texts, the first of which is item i
abbrev pub routes_of : ℕ → List Route → List (List ℕ) → Result (List Route) Fault
routes_of i found [] = Ok found
routes_of i found (text ∷ more) = or_fault (bad_route i) (route text) >> (λ r. routes_of (i + 1) (found ++ r ∷ []) more)

-- the lines found, then those of the texts, the first of which is item i
abbrev pub lines_of : ℕ → List Line → List (List ℕ) → Result (List Line) Fault
lines_of i found [] = Ok found
lines_of i found (text ∷ more) = or_fault (bad_line i) (words_line (parts 32 text)) >> (λ l. lines_of (i + 1) (found ++ l ∷ []) more)

-- ---- what lists of the code stand for

abbrev pub texts_view : Vec (Bor (List ℕ)) Global → List (List ℕ)
texts_view v = map (λ s. s.now) v.items

abbrev pub route_view : String Global × ℕ → Route
route_view r = (string_bytes r.0, r.1)

abbrev pub routes_view : Vec (String Global × ℕ) Global → List Route
routes_view v = map route_view v.items

abbrev pub lines_view : Vec Command Global → List Line
lines_view v = map line_of v.items
