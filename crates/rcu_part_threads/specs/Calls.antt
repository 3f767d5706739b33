-- What a processor's calls in a thread of its own give: docs/specification/program.md, "threads".
use Rattle.std.specs.Prelude.{◌≡◌, ℕ, ◌+◌, ◌<◌, ◌≤◌, List, [], ◌∷◌, ◌++◌, map, All, IfErr, MatchResult, Option, Result}
use Rattle.std.specs.List.{AllZip, Contains}
use Rattle.rcu_board.specs.Seats.{SawShut}
use Rattle.rcu_part_order.specs.Places.{keys_of}
use Rattle.rcu_part_steps.specs.Places.{accepted_list}
use Rattle.rcu_jobs.specs.declared.answers.Refused.{Refused}
use Rattle.rcu_jobs.specs.declared.answers.Refused.TheVariants.{Limit, Memory, Closed}
use Rattle.rcu_jobs.specs.declared.answers.Ticket.{Ticket}
use Rattle.rcu_jobs.specs.declared.Ticked.{Ticked}
use Rattle.rcu_lists.specs.declared.pace.Kind.TheVariants.{Plain}
use Rattle.rcu_part_processor.specs.Calls.{IsAccepted, IsRefusedAs, KeepsAll}
use Rattle.rcu_part_processor.specs.Processors.{IsSound, SameProcessor, view_of}
use Rattle.rcu_part_processor.specs.Ticks.{TicksBy}
use Rattle.rcu_part_processor.specs.declared.processor.Processor.{Processor}
use Rattle.rcu_part_processor.specs.declared.processor.ProcessorState.{ProcessorState}
use Rattle.rcu_part_steps.specs.Reports.{Reports}
use Rattle.rcu_part_threads.specs.Dealing.{AreInOrder, IsAnswer, accepted_jobs, accepted_keys, ticket, tickets_in}

-- There is a ticket for each number of a processor from one count up to another.
abbrev pub AreTickets : ℕ → ℕ → ℕ → List Ticket → Type 0
AreTickets cpu before after tickets = (k : ℕ) → before ≤ k → k < after → Contains tickets (ticket cpu k)

module _ {J R : Type 0} where
  -- a plain call at this moment, then a report, then a tick at the same moment
  pub record CallsThenTurns (key_of : J → ℕ) (moment : ℕ) (job : J) (answer : Result Ticket (Refused J)) (p q : ProcessorState J R) : Type 0 where
    pub called : ProcessorState J R
    pub told : ProcessorState J R
    pub counted : Option ℕ
    pub ticked : Ticked
    pub calls : MatchResult answer (λ t. IsAccepted moment Plain (key_of job) job t p called) (λ r. KeepsAll p called × IsRefusedAs job r p called)
    pub keeps : KeepsAll called told
    pub reports : Reports p.cpu counted (view_of called) (view_of told)
    pub ticks : TicksBy moment ticked told q

  -- these jobs one after another, the first at this moment, the next at the moment after it, and so on
  abbrev pub CallsInTurn : (J → ℕ) → ℕ → List J → List (Result Ticket (Refused J)) → ProcessorState J R → ProcessorState J R → Type 0
  CallsInTurn key_of moment [] [] p q = q ≡ p
  CallsInTurn key_of moment (job ∷ jobs) (answer ∷ answers) p q =
      (between : ProcessorState J R) × CallsThenTurns key_of moment job answer p between × CallsInTurn key_of (moment + 1) jobs answers between q
  CallsInTurn key_of moment jobs answers p q = ⊥

  -- The same processor of its open, which called: for each number that it accepted meanwhile there is a ticket.
  pub record HasCalled (key_of : J → ℕ) (gives : ℕ → R → Type 0) (tickets : List Ticket) (p q : Processor J R) : Type 0 where
    pub same : SameProcessor p.state q.state
    pub count : p.state.accepted ≤ q.state.accepted
    pub tickets_are : AreTickets p.state.cpu p.state.accepted q.state.accepted tickets
    pub sound : IsSound key_of gives p.state → IsSound key_of gives q.state

  -- the keys of all that a processor accepted
  abbrev pub keys_in : Processor J R → List ℕ
  keys_in p = keys_of (accepted_list (view_of p.state))

  -- why a processor refused, by what it is afterwards: it accepted as many as it may, or saw that it was shut
  abbrev pub IsRefusalBy : ProcessorState J R → Refused J → Type 0
  IsRefusalBy q (Limit back) = q.accepted ≡ q.limit
  IsRefusalBy q (Memory back) = Unit {0}
  IsRefusalBy q (Closed back) = SawShut q.cpu (view_of q)

  -- the same of each answer that is a refusal
  abbrev pub AreRefusalsBy : ProcessorState J R → List (Result Ticket (Refused J)) → Type 0
  AreRefusalsBy q answers = All (λ a. IfErr a (IsRefusalBy q)) answers

  -- The same processor, which called with these jobs: each has its answer, a refusal with its reason; the tickets are those of
  -- its next numbers, in order; and the jobs that were accepted are what it accepted besides, by their keys.
  pub record HasAnswered (key_of : J → ℕ) (gives : ℕ → R → Type 0) (jobs : List J) (answers : List (Result Ticket (Refused J))) (p q : Processor J R) : Type 0 where
    pub called : HasCalled key_of gives (tickets_in answers) p q
    pub answered : AllZip IsAnswer jobs answers
    pub numbers : AreInOrder p.state.cpu p.state.accepted (tickets_in answers)
    pub why : AreRefusalsBy q.state answers
    pub keys : keys_in q ≡ keys_in p ++ map key_of (accepted_jobs jobs answers)

  -- Of processors that had accepted nothing: each job has its answer, a refusal with its reason; the tickets of each processor are
  -- those of its numbers 0, 1, ..; and what it accepted, by its keys, are those of its jobs that were accepted.
  pub record HaveAnswered (key_of : J → ℕ) (shares : List (List J)) (answers : List (List (Result Ticket (Refused J)))) (qs : List (Processor J R)) : Type 0 where
    pub answered : AllZip (AllZip IsAnswer) shares answers
    pub tickets : AllZip (λ q own. AreInOrder q.state.cpu 0 (tickets_in own)) qs answers
    pub why : AllZip (λ q own. AreRefusalsBy q.state own) qs answers
    pub keys : map (λ q. keys_in q) qs ≡ accepted_keys key_of shares answers
