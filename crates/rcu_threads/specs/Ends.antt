-- How a run in threads ends: docs/specification/promises.md, "Headline on the running parts", close, and program.md, "threads".
use Rattle.std.specs.Prelude.{◌≡◌, ℕ, List, map, All, Result}
use Rattle.std.specs.List.{AllZip}
use Rattle.rcu_part_threads.specs.Calls.{AreRefusalsBy}
use Rattle.rcu_jobs.specs.declared.answers.Closed.{Closed}
use Rattle.rcu_jobs.specs.declared.answers.Refused.{Refused}
use Rattle.rcu_jobs.specs.declared.answers.Ticket.{Ticket}
use Rattle.rcu_parts.specs.AtClose.{ClosesWith}
use Rattle.rcu_parts.specs.OneOpen.{Parts, processors_in}
use Rattle.rcu_parts.specs.SameParts.{AreSameParts}

module _ {J R : Type 0} where
  -- What was closed are the same parts, however far they came, and the answer is what `close` promises of them.
  pub record ClosesSame (key_of : J → ℕ) (gives : ℕ → R → Type 0) (parts : Parts J R) (closed : Closed J R) : Type 0 where
    pub ended : Parts J R
    pub same : AreSameParts parts ended
    pub closes : ClosesWith key_of gives ended closed

  -- What was closed are the same parts, whose processors show why each refused what it did.
  pub record RefusesFor (key_of : J → ℕ) (gives : ℕ → R → Type 0) (parts : Parts J R) (closed : Closed J R) (answers : List (List (Result Ticket (Refused J)))) : Type 0 where
    pub ended : Parts J R
    pub same : AreSameParts parts ended
    pub closes : ClosesWith key_of gives ended closed
    pub why : AllZip (λ q own. AreRefusalsBy q.state own) (processors_in ended) answers

  -- the keys of what ran on each processor, in order
  abbrev pub keys_ran : Closed J R → List (List ℕ)
  keys_ran closed = map (λ records. map (λ record'. record'.key) records.items) closed.ran.items

  -- nothing was accepted yet
  abbrev pub AreUnused : Parts J R → Type 0
  AreUnused parts = All (λ p. p.state.accepted ≡ 0) (processors_in parts)
