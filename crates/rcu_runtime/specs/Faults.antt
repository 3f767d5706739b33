-- What comes back where a job wasn't accepted: docs/specification/surface.md, "Refusals by number".
use Rattle.std.specs.Prelude.{ℕ, Result}
use Rattle.std.specs.declared.result.Result.TheVariants.{Ok, Err}
use Rattle.rcu_jobs.specs.Refusals as refusals
use Rattle.rcu_jobs.specs.declared.BarrierFault.{BarrierFault}
use Rattle.rcu_jobs.specs.declared.BarrierFault.TheVariants as barrier_fault
use Rattle.rcu_jobs.specs.declared.answers.Refused.{Refused as Refusal}
use Rattle.rcu_jobs.specs.declared.answers.Ticket.{Ticket}
use Rattle.rcu_runtime.specs.declared.fault.NotCalled.{NotCalled}
use Rattle.rcu_runtime.specs.declared.fault.NotCalled.TheVariants.{NoProcessor, Refused}

module _ {J : Type 0} where
  abbrev pub number_of : NotCalled J → ℕ
  number_of (NoProcessor cpu job) = 6
  number_of (Refused refused) = refusals.number_of refused

  abbrev pub back_of : NotCalled J → J
  back_of (NoProcessor cpu job) = job
  back_of (Refused refused) = refusals.job_of refused

  -- what a processor's answer is as that of the runtime
  abbrev pub given_back : Result Ticket (Refusal J) → Result Ticket (NotCalled J)
  given_back (Ok t) = Ok t
  given_back (Err refused) = Err (Refused refused)

-- the number of the refusal of a barrier
abbrev pub barrier_number : BarrierFault → ℕ
barrier_number barrier_fault.Memory = 2
barrier_number (barrier_fault.NoProcessor cpu) = 6
barrier_number (barrier_fault.Ahead cpu count) = 7
