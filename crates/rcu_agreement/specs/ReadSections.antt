-- Read sections beside a history, and the grace-period guarantee: docs/specification/definitions.md, "Read sections".
use Rattle.std.specs.Prelude.{ℕ, ◌<◌, ◌≡◌, List, [], ◌∷◌, length, take, Some}
use Rattle.std.specs.List.{flat_map, slice_get}
use Rattle.rcu_world_law.specs.declared.marks.Mark.{Mark}
use Rattle.rcu_world_law.specs.declared.marks.Mark.TheVariants.{Accepted, Reported, Ran}
use Rattle.rcu_world_law.specs.Law.{accepted, ran}

-- A mark of the history, or a read section of a processor that begins or ends. A processor's sections have names.
pub data Step : Type 0 where
  Marked : Mark → Step
  Begins : (cpu section : ℕ) → Step
  Ends : (cpu section : ℕ) → Step

abbrev pub marks_of : Step → List Mark
marks_of (Marked m) = m ∷ []
marks_of (Begins q s) = []
marks_of (Ends q s) = []

-- the history without its sections
abbrev pub history_of : List Step → List Mark
history_of steps = flat_map marks_of steps

-- at place t the k-th callback of p is accepted, counted from 0
pub record AcceptsAt (steps : List Step) (p k t : ℕ) : Type 0 where
  pub key : ℕ
  pub stands : slice_get steps t ≡ Some (Marked (Accepted p key))
  pub before : length (accepted p (history_of (take t steps))) ≡ k

-- at place u the k-th callback of p runs, counted from 0
pub record RunsAt (steps : List Step) (p k u : ℕ) : Type 0 where
  pub key : ℕ
  pub stands : slice_get steps u ≡ Some (Marked (Ran p key))
  pub before : length (ran p (history_of (take u steps))) ≡ k

-- section s of q ends between places b and e
pub record EndsBetween (steps : List Step) (q s b e : ℕ) : Type 0 where
  pub place : ℕ
  pub after : b < place
  pub before : place < e
  pub stands : slice_get steps place ≡ Some (Ends q s)

-- section s of q, which began at place b, is open at place t: it began before, and it doesn't end in between
pub record IsOpenAt (steps : List Step) (q s b t : ℕ) : Type 0 where
  pub begins : slice_get steps b ≡ Some (Begins q s)
  pub before : b < t
  pub lasts : EndsBetween steps q s b t → ⊥

-- No `Reported` of a processor stands within a section of it: each that began before it has ended before it.
-- (So it is of a run: a report needs the processor, which the `Reading` of `reading` borrows, and so does leaving, so that who is
-- away has no section open. In C the program keeps to it, which a count of open sections tests.)
abbrev pub ReportsOutside : List Step → Type 0
ReportsOutside steps = (q s b i : ℕ) → slice_get steps b ≡ Some (Begins q s) → slice_get steps i ≡ Some (Marked (Reported q)) → b < i → EndsBetween steps q s b i

-- "Grace-period guarantee", of n processors: each section that was open when a callback was accepted ends before it runs
abbrev pub WaitsForReaders : ℕ → List Step → Type 0
WaitsForReaders n steps = (p k t u q s b : ℕ) → AcceptsAt steps p k t → RunsAt steps p k u → q < n → IsOpenAt steps q s b t → EndsBetween steps q s t u

-- the same from the other end: each section that is open when a callback runs began after it was accepted
abbrev pub RunsBeforeReaders : ℕ → List Step → Type 0
RunsBeforeReaders n steps = (p k t u q s b : ℕ) → AcceptsAt steps p k t → RunsAt steps p k u → q < n → IsOpenAt steps q s b u → t < b
