-- What `call_rcu` and `call_rcu_lazy` do: docs/specification/rules.md, "The calls, step by step".
use Rattle.std.specs.Prelude.{◌≡◌, ℕ, Result, IfOk, IfErr, IsErr}
use Rattle.rcu_board.specs.Seats.{SawShut}
use Rattle.rcu_board.specs.declared.view.View.{View}
use Rattle.rcu_jobs.specs.declared.answers.Refused.{Refused}
use Rattle.rcu_jobs.specs.declared.answers.Ticket.{Ticket}
use Rattle.rcu_lists.specs.declared.pace.Kind.{Kind}
use Rattle.rcu_part_processor.specs.Accepting.{Accepting, Accepts, AcceptsNone, IsRefusedByLimit, Refuses}
use Rattle.rcu_part_processor.specs.Processors.{KeepsSound, SameProcessor, records_of, view_of}
use Rattle.rcu_part_processor.specs.declared.processor.ProcessorState.{ProcessorState}

module _ {J R : Type 0} where
  abbrev pub accepting : ProcessorState J R → Accepting J R
  accepting p = record { cpu = p.cpu; limit = p.limit; accepted = p.accepted; view = view_of p; lists = p.lists; records = records_of p }

  -- the job was accepted under the old count
  abbrev pub IsAccepted : ℕ → Kind → ℕ → J → Ticket → ProcessorState J R → ProcessorState J R → Type 0
  IsAccepted moment kind key job t p q = Accepts moment kind key job t (accepting p) (accepting q)

  -- nothing was accepted, and lists and counts are as before
  abbrev pub KeepsAll : ProcessorState J R → ProcessorState J R → Type 0
  KeepsAll p q = AcceptsNone (accepting p) (accepting q)

  -- A call that only makes steps on the board: what they come to, by its views; and it is the same processor, which accepts
  -- nothing, holds what it held, and knows of jobs what it knew.
  pub record OnBoard (Does : View → View → Type 0) (key_of : J → ℕ) (gives : ℕ → R → Type 0) (p q : ProcessorState J R) : Type 0 where
    pub does : Does (view_of p) (view_of q)
    -- the same part of the same open
    pub same : SameProcessor p q
    -- nothing was accepted, and lists, counts and records are as before
    pub keeps : KeepsAll p q
    -- what is known of jobs stays known
    pub sound : KeepsSound key_of gives p q

  -- why the job was refused
  abbrev pub IsRefusedAs : J → Refused J → ProcessorState J R → ProcessorState J R → Type 0
  IsRefusedAs job r p q = Refuses job r (accepting p) (accepting q)

  -- What a call answers and does.
  pub record CallsAs (moment : ℕ) (kind : Kind) (key_of : J → ℕ) (gives : ℕ → R → Type 0) (job : J) (result : Result Ticket (Refused J)) (p q : ProcessorState J R) : Type 0 where
    -- the same part of the same open
    pub same : SameProcessor p q
    -- Ok: the job was accepted, under this ticket
    pub ok : IfOk result (λ t. IsAccepted moment kind (key_of job) job t p q)
    -- Err: nothing was accepted, and the job comes back with the reason
    pub err : IfErr result (λ _. KeepsAll p q)
    pub refused : IfErr result (λ r. IsRefusedAs job r p q)
    -- it is refused where the processor was seen to be shut; and, as refusal 4, at the limit
    pub closed : SawShut p.cpu (view_of p) → IsErr result
    pub full : p.accepted ≡ p.limit → IsRefusedByLimit result
    -- what is known of jobs stays known
    pub sound : KeepsSound key_of gives p q
