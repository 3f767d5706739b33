-- What a mark needs of the history that it is added to. That this is just what keeps a history lawful is proved of
-- `is_lawful`, whose contract is the law.
use Rattle.std.specs.Prelude.{ℕ, ◌<◌, ◌≡◌, List, length, take, Some}
use Rattle.std.specs.List.{slice_get}
use Rattle.rcu_world_law.specs.declared.marks.Mark.{Mark}
use Rattle.rcu_world_law.specs.declared.marks.Mark.TheVariants.{Accepted, Reported, Ran, Opened, Passed, Shut, Back}
use Rattle.rcu_world_law.specs.Law.{IsCovered, accepted, ran}

-- q reported after a place
pub record HasReported (h : List Mark) (after q : ℕ) : Type 0 where
  pub place : ℕ
  pub later : after < place
  pub stands : slice_get h place ≡ Some (Reported q)

-- p was shut
pub record IsShutBefore (h : List Mark) (p : ℕ) : Type 0 where
  pub place : ℕ
  pub stands : slice_get h place ≡ Some (Shut p)

-- the callback is the first that p accepted and that has not run, and each processor reported since
pub record IsDue (n : ℕ) (h : List Mark) (p key : ℕ) : Type 0 where
  pub place : ℕ
  pub stands : slice_get h place ≡ Some (Accepted p key)
  pub next : length (accepted p (take place h)) ≡ length (ran p h)
  pub covered : IsCovered n h place (length h)

-- what was accepted before place a has run before place r
pub record HaveRun (h : List Mark) (a r : ℕ) : Type 0 where
  pub each : (p key t : ℕ) → t < a → slice_get h t ≡ Some (Accepted p key) → length (accepted p (take t h)) < length (ran p (take r h))

-- barrier b was opened
pub record IsOpenedBefore (h : List Mark) (b : ℕ) : Type 0 where
  pub place : ℕ
  pub stands : slice_get h place ≡ Some (Opened b)

-- a barrier was opened, and what was accepted before that has run
pub record IsOver (h : List Mark) (b : ℕ) : Type 0 where
  pub opened : IsOpenedBefore h b
  pub each : (o : ℕ) → slice_get h o ≡ Some (Opened b) → HaveRun h o (length h)

-- the mark may be added to the history of n processors
abbrev pub Fits : ℕ → List Mark → Mark → Type 0
Fits n h (Accepted p key) = IsShutBefore h p → ⊥
Fits n h (Reported q) = Unit {0}
Fits n h (Ran p key) = IsDue n h p key
Fits n h (Opened b) = IsOpenedBefore h b → ⊥
Fits n h (Passed b) = IsOver h b
Fits n h (Shut p) = Unit {0}
Fits n h (Back p key) = Unit {0}
