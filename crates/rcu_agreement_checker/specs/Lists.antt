-- What agreeing asks of the lists of each processor. That this and Places.antt are just what agreeing asks of a history is proved
-- of `agrees`, whose contract is agreeing.
use Rattle.std.specs.Prelude.{ℕ, ◌<◌, ◌≡◌, List, Some}
use Rattle.std.specs.List.{slice_get}
use Rattle.rcu_world_law.specs.declared.marks.Mark.{Mark}
use Rattle.rcu_world_law.specs.declared.marks.Mark.TheVariants.{Accepted, Reported, Ran, Opened, Passed, Shut, Back}
use Rattle.rcu_world_law.specs.Invariant.{reports}
use Rattle.rcu_world_checker.specs.Kinds.{keys}
use Rattle.rcu_world_checker.specs.declared.kinds.Kind.{Kind}
use Rattle.rcu_world_checker.specs.declared.kinds.Kind.TheVariants as kinds
use Rattle.rcu_agreement.specs.Accounts.{Account, account_at}

-- the list of this kind that an account has
abbrev pub listed : Kind → Account → List ℕ
listed kinds.Accepted a = a.keys
listed kinds.Ran a = a.ran
listed kinds.Back a = a.back

-- `accepted_is`, `ran_is` and `back_is`, by their kind
abbrev pub AreListed : Kind → List Account → List Mark → Type 0
AreListed kind accounts h = (p : ℕ) → keys kind p h ≡ listed kind (account_at accounts p)

-- `reports_is`
abbrev pub AreReported : List Account → List Mark → Type 0
AreReported accounts h = (q : ℕ) → reports q h ≡ (account_at accounts q).reports

-- the mark, where it is on a list of a processor, is of one of n processors
abbrev pub IsOf : ℕ → Mark → Type 0
IsOf n (Accepted p key) = p < n
IsOf n (Reported q) = q < n
IsOf n (Ran p key) = p < n
IsOf n (Opened b) = Unit {0}
IsOf n (Passed b) = Unit {0}
IsOf n (Shut p) = Unit {0}
IsOf n (Back p key) = p < n

-- no mark is of a processor beyond n
pub record AreOf (n : ℕ) (h : List Mark) : Type 0 where
  pub each : (i : ℕ) (m : Mark) → slice_get h i ≡ Some m → IsOf n m

-- all that agreeing asks of lists
pub record ListsAgree (accounts : List Account) (h : List Mark) : Type 0 where
  pub accepted_is : AreListed kinds.Accepted accounts h
  pub ran_is : AreListed kinds.Ran accounts h
  pub back_is : AreListed kinds.Back accounts h
  pub reports_is : AreReported accounts h
