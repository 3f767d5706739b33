-- What is known of a runtime at its end, over plain data: docs/specification/definitions.md, "Agreeing".
use Rattle.std.specs.Prelude.{ℕ, ◌<◌, ◌≤◌, ◌≡◌, ◌+◌, ◌*◌, List, [], ◌++◌, length, get_or, slice_index, All}

-- What is known of one processor.
pub record Account : Type 0 where
  -- the keys that it accepted, in order, and the stamp of each
  pub keys : List ℕ
  pub stamps : List ℕ
  -- the keys that ran, in order, and the number that was seen before each was claimed
  pub ran : List ℕ
  pub readies : List ℕ
  -- the keys that were handed back
  pub back : List ℕ
  -- how many grace periods it passed
  pub reports : ℕ
  -- how many of its callbacks had run, as each seat saw it
  pub turns : List ℕ
  -- how many it had accepted, as each seat saw it that saw it shut
  pub shuts : List ℕ

abbrev pub no_account : Account
no_account = record { keys = []; stamps = []; ran = []; readies = []; back = []; reports = 0; turns = []; shuts = [] }

-- the account of processor p
abbrev pub account_at : List Account → ℕ → Account
account_at accounts p = get_or accounts p no_account

-- the stamp of the k-th callback that p accepted, and the number that was seen before the k-th that ran was claimed; k is from 0
abbrev pub stamp_of : List Account → ℕ → ℕ → ℕ
stamp_of accounts p k = slice_index (account_at accounts p).stamps k

abbrev pub ready_of : List Account → ℕ → ℕ → ℕ
ready_of accounts p k = slice_index (account_at accounts p).readies k

-- the number of the j-th grace period, counted from 0
abbrev pub number_of : ℕ → ℕ
number_of j = 4 * j + 1

-- Of so many grace periods that a processor passed, the first ones, one has its number between this stamp and this sight.
pub record LiesBetween (stamp ready passed : ℕ) : Type 0 where
  pub period : ℕ
  pub within : period < passed
  pub after : stamp < number_of period
  pub before : number_of period < ready

-- What `close` proves of one processor, where `accounts` are those of all.
pub record IsAccount (accounts : List Account) (a : Account) : Type 0 where
  -- what was accepted is what ran, and then what was handed back
  pub settled : a.keys ≡ a.ran ++ a.back
  -- each processor passed a grace period between the stamp and the sight of each callback that ran
  pub graced : (k : ℕ) → k < length a.ran → All (λ q. LiesBetween (slice_index a.stamps k) (slice_index a.readies k) q.reports) accounts
  -- no seat saw more run than ran in the end
  pub turns : All (λ turn. turn ≤ length a.ran) a.turns
  -- who saw it shut saw all that it accepted
  pub shuts : All (λ count. count ≡ length a.keys) a.shuts

abbrev pub AreAccounts : List Account → Type 0
AreAccounts accounts = All (IsAccount accounts) accounts
