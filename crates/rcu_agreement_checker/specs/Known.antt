-- What the code knows, as the plain data that agreeing speaks of (Rattle.rcu_agreement.specs.Accounts).
use Rattle.std.specs.Prelude.{ℕ, List, map}
use Rattle.std.specs.Global.{Vec}
use Rattle.rcu_agreement.specs.Accounts as plain
use Rattle.rcu_agreement_checker.specs.declared.account.Account.{Account}

-- what is known of one processor
abbrev pub known : Account → plain.Account
known a = record {
  keys = a.keys.items;
  stamps = a.stamps.items;
  ran = a.ran.items;
  readies = a.readies.items;
  back = a.back.items;
  reports = a.reports;
  turns = a.turns.items;
  shuts = a.shuts.items;
}

-- what is known of each
abbrev pub all_known : List Account → List plain.Account
all_known accounts = map known accounts

-- the counts that each barrier took
abbrev pub all_counts : List (Vec ℕ) → List (List ℕ)
all_counts counts = map (λ taken. taken.items) counts
