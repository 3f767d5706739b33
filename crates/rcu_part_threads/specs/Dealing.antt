-- How jobs are dealt to processors, and what their calls answer: docs/specification/program.md, "threads".
use Rattle.std.specs.Prelude.{◌≡◌, ℕ, ◌%◌, ◌<◌, ◌==◌, List, [], ◌∷◌, get_or, map, length, IfErr, Result}
use Rattle.std.specs.Prelude.{Ok, Err}
use Rattle.std.specs.List.{AllZip, enumerate_from, filter, range_with_len}
use Rattle.rcu_jobs.specs.Refusals.{job_of}
use Rattle.rcu_jobs.specs.declared.answers.Refused.{Refused}
use Rattle.rcu_jobs.specs.declared.answers.Ticket.{Ticket}

abbrev pub ticket : ℕ → ℕ → Ticket
ticket cpu number = record { cpu = cpu; number = number }

-- the tickets of so many numbers of a processor, from one count on
abbrev pub tickets_from : ℕ → ℕ → ℕ → List Ticket
tickets_from cpu before many = map (ticket cpu) (range_with_len before many)

-- These are, in order, the tickets of a processor's numbers from one count on.
abbrev pub AreInOrder : ℕ → ℕ → List Ticket → Type 0
AreInOrder cpu before tickets = tickets ≡ tickets_from cpu before (length tickets)

module _ {J : Type 0} where
  -- what falls to processor p of n, as jobs are dealt in rounds: those at the places p, p + n, p + 2n, ..
  abbrev pub share : ℕ → ℕ → List J → List J
  share n p jobs = map (λ e. e.1) (filter (λ e. e.0 % n == p) (enumerate_from 0 jobs))

  -- these are the shares of as many processors
  abbrev pub AreDealt : List J → List (List J) → Type 0
  AreDealt jobs shares = (p : ℕ) → p < length shares → get_or shares p [] ≡ share (length shares) p jobs

  -- a job that was refused comes back
  abbrev pub IsAnswer : J → Result Ticket (Refused J) → Type 0
  IsAnswer job answer = IfErr answer (λ refused. job_of refused ≡ job)

  -- the tickets among the answers
  abbrev pub tickets_in : List (Result Ticket (Refused J)) → List Ticket
  tickets_in [] = []
  tickets_in (Ok ticket ∷ answers) = ticket ∷ tickets_in answers
  tickets_in (Err refused ∷ answers) = tickets_in answers

  -- the jobs that were accepted, where these are the answers
  abbrev pub accepted_jobs : List J → List (Result Ticket (Refused J)) → List J
  accepted_jobs (job ∷ jobs) (Ok ticket ∷ answers) = job ∷ accepted_jobs jobs answers
  accepted_jobs (job ∷ jobs) (Err refused ∷ answers) = accepted_jobs jobs answers
  accepted_jobs jobs answers = []

  -- the same of each processor, by the keys of its jobs
  abbrev pub accepted_keys : (J → ℕ) → List (List J) → List (List (Result Ticket (Refused J))) → List (List ℕ)
  accepted_keys key_of (jobs ∷ shares) (own ∷ answers) = map key_of (accepted_jobs jobs own) ∷ accepted_keys key_of shares answers
  accepted_keys key_of shares answers = []

  -- Jobs were dealt in rounds to at least one processor; each of its calls has its answer, in order; its tickets are those of the
  -- processor's numbers 0, 1, ..; and of these jobs those that were accepted, by their keys, are those that ran on each
  -- processor, in order.
  pub record HaveAllRun (key_of : J → ℕ) (jobs : List J) (answers : List (List (Result Ticket (Refused J)))) (ran : List (List ℕ)) : Type 0 where
    pub shares : List (List J)
    pub some : 0 < length shares
    pub dealt : AreDealt jobs shares
    pub answered : AllZip (AllZip IsAnswer) shares answers
    pub tickets : (p : ℕ) → p < length answers → AreInOrder p 0 (tickets_in (get_or answers p []))
    pub accepted : ran ≡ accepted_keys key_of shares answers
