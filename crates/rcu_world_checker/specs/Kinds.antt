-- The three lists of a processor (`docs/specification/definitions.md`, "Lists of a processor"), by their kind.
use Rattle.std.specs.Prelude.{ℕ, ◌≡◌, List, [], ◌∷◌, Option, Some, None, length, take}
use Rattle.std.specs.List.{flat_map, slice_get}
use Rattle.rcu_world_law.specs.declared.marks.Mark.{Mark}
use Rattle.rcu_world_law.specs.Law.{key_accepted, key_ran, key_back}
use Rattle.rcu_world_checker.specs.declared.kinds.Kind.{Kind}
use Rattle.rcu_world_checker.specs.declared.kinds.Kind.TheVariants as kinds

-- the key of a mark of this kind of p
abbrev pub key_in : Kind → ℕ → Mark → List ℕ
key_in kinds.Accepted p m = key_accepted p m
key_in kinds.Ran p m = key_ran p m
key_in kinds.Back p m = key_back p m

-- the keys of the marks of this kind of p, in the order of h
abbrev pub keys : Kind → ℕ → List Mark → List ℕ
keys kind p h = flat_map (key_in kind p) h

-- at place t stands the k-th mark of this kind of p, counted from 0, with this key
pub record IsNth (kind : Kind) (h : List Mark) (p k t key : ℕ) : Type 0 where
  pub mark : Mark
  pub stands : slice_get h t ≡ Some mark
  pub gives : key_in kind p mark ≡ key ∷ []
  pub before : length (keys kind p (take t h)) ≡ k

abbrev pub in_list : Option ℕ → List ℕ
in_list None = []
in_list (Some key) = key ∷ []
