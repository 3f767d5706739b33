-- A history that agrees: some barriers open, all acceptances, all reports, all runs, these barriers pass, all processors are shut,
-- and what is handed back.
use Rattle.std.specs.Prelude.{ℕ, suc, ◌<◌, ◌≤◌, List, [], ◌∷◌, ◌++◌, length, map, replicate}
use Rattle.std.specs.List.{Any, range_with_len}
use Rattle.rcu_world_law.specs.declared.marks.Mark.{Mark}
use Rattle.rcu_world_law.specs.declared.marks.Mark.TheVariants.{Accepted, Reported, Ran, Opened, Passed, Shut, Back}
use Rattle.rcu_agreement.specs.Accounts.{Account, account_at}
use Rattle.rcu_agreement.specs.Agreement.{count_of}

abbrev pub acceptances : ℕ → Account → List Mark
acceptances p a = map (λ key. Accepted p key) a.keys

abbrev pub reported : ℕ → Account → List Mark
reported p a = replicate a.reports (Reported p)

abbrev pub runs : ℕ → Account → List Mark
runs p a = map (λ key. Ran p key) a.ran

abbrev pub shuts : ℕ → Account → List Mark
shuts p a = Shut p ∷ []

abbrev pub backs : ℕ → Account → List Mark
backs p a = map (λ key. Back p key) a.back

-- these marks of each processor, from p on
abbrev pub of_all : (ℕ → Account → List Mark) → ℕ → List Account → List Mark
of_all marks p [] = []
of_all marks p (a ∷ accounts) = marks p a ++ of_all marks (suc p) accounts

-- the barriers 0, 1, .. open, and pass
abbrev pub opens : ℕ → List Mark
opens barriers = map (λ b. Opened b) (range_with_len 0 barriers)

abbrev pub passes : ℕ → List Mark
passes barriers = map (λ b. Passed b) (range_with_len 0 barriers)

abbrev pub plain : ℕ → List Account → List Mark
plain barriers accounts = opens barriers
    ++ (of_all acceptances 0 accounts ++ (of_all reported 0 accounts ++ (of_all runs 0 accounts ++ (passes barriers ++ (of_all shuts 0 accounts ++ of_all backs 0 accounts)))))

-- So many barriers may pass: some seat saw as many run as each of them counts.
abbrev pub MayPass : List Account → List (List ℕ) → ℕ → Type 0
MayPass accounts counts barriers = (b p : ℕ) → b < barriers → p < length accounts → Any (λ turn. count_of counts b p ≤ turn) (account_at accounts p).turns
