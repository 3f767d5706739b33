-- What `close` answers of a processor's callbacks.
use Rattle.std.specs.Prelude.{ℕ, ◌-◌, List, ◌++◌, length, map, replicate, take}
use Rattle.rcu_jobs.specs.declared.callback.Record.{Record}
use Rattle.rcu_numbers.specs.declared.sequence.TheConstants.{LAST_NUMBER}

-- the stamps of so many callbacks, where those of the first ones are known, which ran: of the others it is the greatest number
abbrev pub stamps_known : {R : Type 0} → List (Record R) → ℕ → List ℕ
stamps_known ran many = let stamps = map (λ r. r.stamp) ran in take many stamps ++ replicate (many - length stamps) LAST_NUMBER
