-- What a run in threads does to a processor: docs/specification/program.md, "threads".
use Rattle.std.specs.Prelude.{◌≡◌, ℕ, ◌+◌, ◌*◌, ◌≤◌, List, All}
use Rattle.rcu_board.specs.Views.{seen_at}
use Rattle.rcu_board.specs.Words.{turns_word}
use Rattle.rcu_board.specs.declared.view.View.{View}
use Rattle.rcu_jobs.specs.declared.answers.Ticket.{Ticket}
use Rattle.rcu_part_processor.specs.Processors.{IsSound, SameProcessor}
use Rattle.rcu_part_processor.specs.declared.processor.Processor.{Processor}

-- The view has seen the turn word of each ticket's processor past the ticket's number: its callback has run.
abbrev pub AreOver : View → List Ticket → Type 0
AreOver v tickets = All (λ t. 2 * (t.number + 1) ≤ seen_at v (turns_word t.cpu)) tickets

module _ {J R : Type 0} where
  -- The same processor of its open, all of whose callbacks have run by what this view has seen, if it had none before.
  pub record HasRun (key_of : J → ℕ) (gives : ℕ → R → Type 0) (v : View) (p q : Processor J R) : Type 0 where
    pub same : SameProcessor p.state q.state
    pub sound : IsSound key_of gives p.state → IsSound key_of gives q.state
    pub over : p.state.accepted ≡ 0 → 2 * q.state.accepted ≤ seen_at v (turns_word p.state.cpu)
