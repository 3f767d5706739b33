-- The law: what holds of every history (`docs/specification/definitions.md`, "The law").
-- It speaks of one list of marks. There is no segment, mask, bypass list, lane, group, mode or sequence number in it.
-- "Given" speaks of the records beside the marks: `AreRecords` in Invariant, and for the receipts the job's own relation.
use Rattle.std.specs.Prelude.{ℕ, ◌<◌, ◌≡◌, ◌==◌, if◌then◌else◌, List, [], ◌∷◌, ◌++◌, length, take, Some}
use Rattle.std.specs.List.{flat_map, slice_get}
use Rattle.rcu_world_law.specs.declared.marks.Mark.{Mark}
use Rattle.rcu_world_law.specs.declared.marks.Mark.TheVariants.{Accepted, Reported, Ran, Opened, Passed, Shut, Back}

-- "Lists of a processor": the key of an `Accepted` of p
abbrev pub key_accepted : ℕ → Mark → List ℕ
key_accepted p (Accepted q key) = if q == p then key ∷ [] else []
key_accepted p (Reported q) = []
key_accepted p (Ran q key) = []
key_accepted p (Opened b) = []
key_accepted p (Passed b) = []
key_accepted p (Shut q) = []
key_accepted p (Back q key) = []

-- the key of a `Ran` of p
abbrev pub key_ran : ℕ → Mark → List ℕ
key_ran p (Accepted q key) = []
key_ran p (Reported q) = []
key_ran p (Ran q key) = if q == p then key ∷ [] else []
key_ran p (Opened b) = []
key_ran p (Passed b) = []
key_ran p (Shut q) = []
key_ran p (Back q key) = []

-- the key of a `Back` of p
abbrev pub key_back : ℕ → Mark → List ℕ
key_back p (Accepted q key) = []
key_back p (Reported q) = []
key_back p (Ran q key) = []
key_back p (Opened b) = []
key_back p (Passed b) = []
key_back p (Shut q) = []
key_back p (Back q key) = if q == p then key ∷ [] else []

-- A(h,p): the keys of the marks `Accepted` of p, in the order of h
abbrev pub accepted : ℕ → List Mark → List ℕ
accepted p h = flat_map (key_accepted p) h

-- R(h,p): the keys of the marks `Ran` of p, in the order of h
abbrev pub ran : ℕ → List Mark → List ℕ
ran p h = flat_map (key_ran p) h

-- B(h,p): the keys of the marks `Back` of p, in the order of h
abbrev pub back : ℕ → List Mark → List ℕ
back p h = flat_map (key_back p) h

abbrev pub IsPrefixOf : List ℕ → List ℕ → Type 0
IsPrefixOf xs ys = (rest : List ℕ) × (ys ≡ xs ++ rest)

-- "Ordered": what ran of a processor is a prefix of what it accepted
abbrev pub IsOrdered : List Mark → Type 0
IsOrdered h = (p : ℕ) → IsPrefixOf (ran p h) (accepted p h)

-- at place t stands the k-th `Accepted` of p, counted from 0
pub record IsAccepted (h : List Mark) (p k t : ℕ) : Type 0 where
  pub key : ℕ
  pub stands : slice_get h t ≡ Some (Accepted p key)
  pub before : length (accepted p (take t h)) ≡ k

-- at place u stands the k-th `Ran` of p, counted from 0
pub record IsRan (h : List Mark) (p k u : ℕ) : Type 0 where
  pub key : ℕ
  pub stands : slice_get h u ≡ Some (Ran p key)
  pub before : length (ran p (take u h)) ≡ k

-- "Covered(h,t,u)": a `Reported` of each of the n processors stands strictly between places t and u
pub record IsCovered (n : ℕ) (h : List Mark) (t u : ℕ) : Type 0 where
  pub each : (q : ℕ) → q < n → (i : ℕ) × (t < i) × (i < u) × (slice_get h i ≡ Some (Reported q))

-- "Graced": where a k-th `Ran` of p stands, the places of the k-th `Accepted` of p and of it are covered.
-- So each processor passed through a quiescent state while the callback waited: that is its grace period
abbrev pub IsGraced : ℕ → List Mark → Type 0
IsGraced n h = (p k t u : ℕ) → IsAccepted h p k t → IsRan h p k u → IsCovered n h t u

-- "Barred": where `Passed(b)` stands (at e), each callback whose `Accepted` stands before `Opened(b)` (at o) has its
-- `Ran` before `Passed(b)`
abbrev pub IsBarred : List Mark → Type 0
IsBarred h = (b o e p k t : ℕ) → slice_get h o ≡ Some (Opened b) → slice_get h e ≡ Some (Passed b) → IsAccepted h p k t → t < o → (u : ℕ) × (u < e) × IsRan h p k u

-- "Opened": each `Passed(b)` has one `Opened(b)` before it. It has one there, and no name is opened twice
pub record IsOpened (h : List Mark) : Type 0 where
  pub before : (b e : ℕ) → slice_get h e ≡ Some (Passed b) → (o : ℕ) × (o < e) × (slice_get h o ≡ Some (Opened b))
  pub once : (b i j : ℕ) → slice_get h i ≡ Some (Opened b) → slice_get h j ≡ Some (Opened b) → i ≡ j

-- "Shut": no `Accepted` of p stands after `Shut(p)`
abbrev pub IsShut : List Mark → Type 0
IsShut h = (p i j key : ℕ) → slice_get h i ≡ Some (Shut p) → slice_get h j ≡ Some (Accepted p key) → j < i

-- "Settled": each processor's callbacks are those that ran followed by those that came back, and a `Shut(p)` stands
-- before each `Back` of p
pub record IsSettled (h : List Mark) : Type 0 where
  pub accounted : (p : ℕ) → accepted p h ≡ ran p h ++ back p h
  pub shut : (p i key : ℕ) → slice_get h i ≡ Some (Back p key) → (j : ℕ) × (j < i) × (slice_get h j ≡ Some (Shut p))

-- the five laws of one history
pub record IsSound (n : ℕ) (h : List Mark) : Type 0 where
  pub ordered : IsOrdered h
  pub graced : IsGraced n h
  pub barred : IsBarred h
  pub opened : IsOpened h
  pub shut : IsShut h

-- "Lawful", of the history of n processors: "ordered", "graced", "barred", "opened" and "shut" hold in every prefix
pub record IsLawful (n : ℕ) (h : List Mark) : Type 0 where
  pub each : (m : ℕ) → IsSound n (take m h)

-- "Closed": lawful, so "opened" too, and "settled"
pub record IsClosed (n : ℕ) (h : List Mark) : Type 0 where
  pub lawful : IsLawful n h
  pub settled : IsSettled h

-- "Nothing accepted after back": no `Accepted` of p stands after a `Back` of p, so none after the first
abbrev pub HasNothingAcceptedAfterBack : List Mark → Type 0
HasNothingAcceptedAfterBack h = (p i j key other : ℕ) → slice_get h i ≡ Some (Back p key) → slice_get h j ≡ Some (Accepted p other) → j < i

-- no callback was handed back: so it is of every history before `close`
pub record HasNoBack (h : List Mark) : Type 0 where
  pub none : (p i key : ℕ) → slice_get h i ≡ Some (Back p key) → ⊥
