-- What each mark of a closed history needs. That this is just what makes an ordered history settled is proved of `is_closed`,
-- whose contract is the law.
use Rattle.std.specs.Prelude.{ℕ, ◌+◌, ◌≡◌, List, length, take, Some}
use Rattle.std.specs.List.{slice_get}
use Rattle.rcu_world_law.specs.declared.marks.Mark.{Mark}
use Rattle.rcu_world_law.specs.declared.marks.Mark.TheVariants.{Accepted, Reported, Ran, Opened, Passed, Shut, Back}
use Rattle.rcu_world_law.specs.Law.{accepted, back, ran}
use Rattle.rcu_world_checker.specs.Fits.{IsShutBefore}

-- as many callbacks of p ran or came back as it accepted
pub record IsAccounted (h : List Mark) (p : ℕ) : Type 0 where
  pub many : length (accepted p h) ≡ length (ran p h) + length (back p h)

-- the callback that comes back at place u is the next one that p accepted, behind all that ran and that came back before
pub record IsReturned (h : List Mark) (u p key : ℕ) : Type 0 where
  pub place : ℕ
  pub stands : slice_get h place ≡ Some (Accepted p key)
  pub next : length (accepted p (take place h)) ≡ length (ran p h) + length (back p (take u h))
  pub shut : IsShutBefore (take u h) p

abbrev pub SettlesAs : List Mark → ℕ → Mark → Type 0
SettlesAs h u (Accepted p key) = IsAccounted h p
SettlesAs h u (Reported q) = Unit {0}
SettlesAs h u (Ran p key) = Unit {0}
SettlesAs h u (Opened b) = Unit {0}
SettlesAs h u (Passed b) = Unit {0}
SettlesAs h u (Shut p) = Unit {0}
SettlesAs h u (Back p key) = IsReturned h u p key

-- the mark at place u leaves the history settled
pub record Settles (h : List Mark) (u : ℕ) : Type 0 where
  pub is : (m : Mark) → slice_get h u ≡ Some m → SettlesAs h u m
