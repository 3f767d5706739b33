-- The lane law as a rule of the deque: docs/specification/definitions.md, "The running parts: laws" (lane law).
use Rattle.std.specs.Prelude.{◌≡◌, ℕ, Bool, true, List, [], ◌∷◌, ◌++◌, drop, length}
use mathlib.Core.Option.{some}
use lib.ListN.{get_elem?}
use Rattle.rcu_lanes.specs.declared.law.Log.{Log}

module _ {T : Type 0} where
  -- each item is allowed after all those before it
  abbrev pub AllowedAfter : (List T → T → Type 0) → List T → List T → Type 0
  AllowedAfter allows before [] = Unit {0}
  AllowedAfter allows before (x ∷ xs) = allows before x × AllowedAfter allows (before ++ x ∷ []) xs

  -- what an end may do, and what it put and drew
  abbrev pub log : Bool → Bool → List T → List T → Log T
  log puts draws put drawn = record { puts = puts; draws = draws; put = put; drawn = drawn }

  -- an end that may put is the writer and knows all that was put; one that may draw is the reader and knows all that was drawn
  abbrev pub Fits : ℕ → ℕ → List T → List T → ℕ → Log T → Type 0
  Fits writer reader put drawn port v = (v.puts ≡ true → (port ≡ writer) × (v.put ≡ put)) × (v.draws ≡ true → (port ≡ reader) × (v.drawn ≡ drawn))

  -- what was put and not drawn
  abbrev pub rest_of : Log T → List T
  rest_of v = drop (length v.drawn) v.put

-- What was put on a lane is what was drawn from it, and then the items that it holds, in order. One end at most may put, and one may draw.
-- The views are what each end knows, by its number.
pub record KeepsLaneLaw {T : Type 0} (allows : List T → T → Type 0) (items : List T) (views : List (Log T)) : Type 0 where
  pub writer : ℕ
  pub reader : ℕ
  pub put : List T
  pub drawn : List T
  pub in_order : put ≡ drawn ++ items
  pub allowed : AllowedAfter allows [] put
  pub known : (port : ℕ) (v : Log T) → get_elem? views port ≡ some v → Fits writer reader put drawn port v
