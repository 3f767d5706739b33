-- What a call of a processor answers, said of the whole runtime.
use Rattle.std.proofs.Common.{◌≡◌, ◌≢◌, ℕ, ◌+◌, ◌<◌, ◌≤◌, Result, Ok, Err, IfOk, IfErr, IsErr, true, false, length, get_or, arith}
use Rattle.rcu_jobs.specs.declared.answers.Refused.{Refused}
use Rattle.rcu_jobs.specs.declared.answers.Ticket.{Ticket}
use Rattle.rcu_lists.specs.declared.pace.Kind.{Kind}
use Rattle.rcu_part_processor.specs.Accepting.{IsLimit}
use Rattle.rcu_part_processor.specs.Calls.{IsAccepted, IsRefusedAs, KeepsAll}
use Rattle.rcu_part_processor.specs.Processors.{SameProcessor}
use Rattle.rcu_part_processor.specs.declared.processor.Processor.{Processor}
use Rattle.rcu_parts.specs.OneOpen.{AreOfOneOpen, Parts, processors_in}
use Rattle.rcu_runtime.specs.Calls.{AcceptsJob, GivesBack, OnProcessor, RefusesJob}
use Rattle.rcu_runtime.specs.Faults.{given_back}
use Rattle.rcu_runtime.specs.Runtimes.{accepted_in}
use Rattle.rcu_runtime.proofs.Wholes.{called_accepted, called_count, called_on, with_processor}

module _ {J R : Type 0} where
  -- what the processor's call says of its answer
  pub record Answers (moment : ℕ) (kind : Kind) (key : ℕ) (job : J) (r : Result Ticket (Refused J)) (p q : Processor J R) : Type 0 where
    pub same : SameProcessor p.state q.state
    pub ok : IfOk r (λ t. IsAccepted moment kind key job t p.state q.state)
    pub err : IfErr r (λ _. KeepsAll p.state q.state)
    pub refused : IfErr r (λ x. IsRefusedAs job x p.state q.state)
    pub full : p.state.accepted ≡ p.state.limit → IfErr r (λ x. IsLimit x) × IsErr r

  module _ (old parts : Parts J R) (seen : parts ≡ old) (k n : ℕ) (p q : Processor J R) (there : k < n) (many : n ≡ length (processors_in old)) (is : p ≡ get_or (processors_in parts) k p)
      (moment : ℕ) (kind : Kind) (key : ℕ) (job : J) where
    pub accepted_ok : (r : Result Ticket (Refused J)) → AreOfOneOpen parts → Answers moment kind key job r p q
        → IfOk (given_back r) (λ t. OnProcessor k (AcceptsJob moment kind key job t) old (with_processor parts k q))
    accepted_ok (Ok t) one a =
        let few = p.state.small in
        let below : p.state.accepted ≢ p.state.limit = λ e. (let z : false ≡ true = (a.full e).1 in cc) in
        let more : p.state.accepted ≤ q.state.accepted = (let h = a.ok.count in omega (arith, h)) in
        called_on old parts seen k n p q there many is (AcceptsJob moment kind key job t) one a.same more (record { accepts = a.ok; room = omega (arith, few, below) })
    accepted_ok (Err x) one a = tt

    pub accepted_err : (r : Result Ticket (Refused J)) → AreOfOneOpen parts → Answers moment kind key job r p q
        → IfErr (given_back r) (λ fault. GivesBack k job fault old (with_processor parts k q))
    accepted_err (Ok t) one a = tt
    accepted_err (Err x) one a =
        let more : p.state.accepted ≤ q.state.accepted = (let h = a.err.count in omega (arith, h)) in
        called_on old parts seen k n p q there many is (RefusesJob job x) one a.same more (record { why = a.refused; keeps = a.err; full = λ e. (a.full e).0 })

    pub accepted_one : (r : Result Ticket (Refused J)) → Answers moment kind key job r p q → IfOk (given_back r) (λ _. accepted_in (with_processor parts k q) ≡ accepted_in old + 1)
    accepted_one (Ok t) a = let h = a.ok.count in omega (arith, h, called_accepted old parts seen k n p q there many is)
    accepted_one (Err x) a = tt

    pub accepted_none : (r : Result Ticket (Refused J)) → Answers moment kind key job r p q → IfErr (given_back r) (λ _. accepted_in (with_processor parts k q) ≡ accepted_in old)
    accepted_none (Ok t) a = tt
    accepted_none (Err x) a = called_count old parts seen k n p q there many is a.err.count
