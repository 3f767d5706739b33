-- What agreeing asks of the mark at one place.
use Rattle.std.specs.Prelude.{ℕ, ◌<◌, ◌≤◌, ◌≡◌, ◌⊎◌, List, length, take, Some}
use Rattle.std.specs.List.{Any, slice_get}
use Rattle.rcu_world_law.specs.declared.marks.Mark.{Mark}
use Rattle.rcu_world_law.specs.declared.marks.Mark.TheVariants.{Accepted, Reported, Ran, Opened, Passed, Shut, Back}
use Rattle.rcu_world_law.specs.Law.{accepted, ran, IsAccepted, IsRan}
use Rattle.rcu_world_checker.specs.Fits.{IsOpenedBefore, IsShutBefore}
use Rattle.rcu_agreement.specs.Accounts.{Account, account_at, number_of, ready_of, stamp_of}
use Rattle.rcu_agreement.specs.Agreement.{IsReport, count_of}

-- no report before a place has a number above this one
pub record HasNoneAbove (h : List Mark) (place number : ℕ) : Type 0 where
  pub each : (q j i : ℕ) → IsReport h q j i → i < place → number_of j ≤ number

-- no report from a place on has a number below this one
pub record HasNoneBelow (h : List Mark) (place number : ℕ) : Type 0 where
  pub each : (q j i : ℕ) → IsReport h q j i → place ≤ i → number ≤ number_of j

-- `stamped`, of an acceptance of p at place t
abbrev pub IsStamped : List Account → List Mark → ℕ → ℕ → Type 0
IsStamped accounts h t p = HasNoneAbove h t (stamp_of accounts p (length (accepted p (take t h))))

-- `seen`, of a run of p at place u
abbrev pub IsSeen : List Account → List Mark → ℕ → ℕ → Type 0
IsSeen accounts h u p = HasNoneBelow h u (ready_of accounts p (length (ran p (take u h))))

-- `shut`, where p is shut at place i
abbrev pub IsShutAt : List Account → List Mark → ℕ → ℕ → Type 0
IsShutAt accounts h i p = Any (λ count. count ≡ length (accepted p (take i h))) (account_at accounts p).shuts ⊎ (length (accepted p (take i h)) ≡ length (accepted p h))

-- `counted`, where barrier b opens at place o
pub record IsCounted (counts : List (List ℕ)) (h : List Mark) (o b : ℕ) : Type 0 where
  pub each : (p k t : ℕ) → IsAccepted h p k t → t < o → k < count_of counts b p

-- `passed`, where barrier b passes at place e
pub record IsBeyond (counts : List (List ℕ)) (h : List Mark) (e b : ℕ) : Type 0 where
  pub each : (p k u : ℕ) → IsRan h p k u → e ≤ u → count_of counts b p ≤ k

-- `polled`, of barrier b
pub record IsPolled (accounts : List Account) (counts : List (List ℕ)) (b : ℕ) : Type 0 where
  pub each : (p : ℕ) → p < length accounts → Any (λ turn. count_of counts b p ≤ turn) (account_at accounts p).turns

-- what is asked of an opening at place o
pub record OpensAt (counts : List (List ℕ)) (h : List Mark) (o b : ℕ) : Type 0 where
  pub once : IsOpenedBefore (take o h) b → ⊥
  pub counted : IsCounted counts h o b

-- what is asked of a pass at place e
pub record PassesAt (accounts : List Account) (counts : List (List ℕ)) (h : List Mark) (e b : ℕ) : Type 0 where
  pub opened : IsOpenedBefore (take e h) b
  pub passed : IsBeyond counts h e b
  pub polled : IsPolled accounts counts b

-- what is asked of a mark at place u
abbrev pub AgreesAs : List Account → List (List ℕ) → List Mark → ℕ → Mark → Type 0
AgreesAs accounts counts h u (Accepted p key) = IsStamped accounts h u p
AgreesAs accounts counts h u (Reported q) = Unit {0}
AgreesAs accounts counts h u (Ran p key) = IsSeen accounts h u p
AgreesAs accounts counts h u (Opened b) = OpensAt counts h u b
AgreesAs accounts counts h u (Passed b) = PassesAt accounts counts h u b
AgreesAs accounts counts h u (Shut p) = IsShutAt accounts h u p
AgreesAs accounts counts h u (Back p key) = IsShutBefore (take u h) p

-- the mark that stands at place u agrees
pub record AgreesAt (accounts : List Account) (counts : List (List ℕ)) (h : List Mark) (u : ℕ) : Type 0 where
  pub is : (m : Mark) → slice_get h u ≡ Some m → AgreesAs accounts counts h u m
