-- What clauses say of the records of callbacks that ran: docs/specification/definitions.md, "The law", "Given".
use Rattle.std.specs.Prelude.{ℕ, List, map}
use Rattle.std.specs.List.{All}
use Rattle.rcu_jobs.specs.declared.callback.Record.{Record}

-- the keys of the records, in order
abbrev pub keys_of : {R : Type 0} → List (Record R) → List ℕ
keys_of records = map (λ r. r.key) records

-- each receipt is as the relation wants it for the record's key
abbrev pub Given : {R : Type 0} → (ℕ → R → Type 0) → List (Record R) → Type 0
Given gives records = All (λ r. gives r.key r.receipt) records
