-- What an act of a processor's thread counts.
use Rattle.std.specs.Prelude.{◌≡◌, ℕ, Option, is_some}
use Rattle.std.specs.Int.{from_bool}
use Rattle.rcu_jobs.specs.declared.answers.Ticket.{Ticket}
use Rattle.rcu_lists.specs.declared.pace.Kind.{Kind}
use Rattle.rcu_lists.specs.declared.pace.Kind.TheVariants.{Plain, Lazy}
use Rattle.rcu_part_processor.specs.Calls.{IsAccepted}
use Rattle.rcu_part_processor.specs.Processors.{view_of}
use Rattle.rcu_part_steps.specs.Reports.{Reports}
use Rattle.check_torture.specs.Kept.{Cpu, GoesOn}
use Rattle.check_torture.specs.Retired.{version_of}
use Rattle.check_torture.specs.Sums.{sum_up}
use Rattle.check_torture.specs.declared.acts.Actor.{Actor}
use Rattle.check_torture.specs.declared.counters.Counters.{Counters}
use Rattle.check_torture.specs.declared.retire.Retire.{Retire}

-- how many lazy calls a call is
abbrev pub lazy_calls : Kind → ℕ
lazy_calls Plain = 0
lazy_calls Lazy = 1

-- one callback more that was accepted, by a call of this kind
abbrev pub one_call : Kind → Counters → Counters
one_call kind c = record c { callbacks = sum_up c.callbacks 1; lazy = sum_up c.lazy (lazy_calls kind) }

-- the job was accepted by a call of this kind, under this ticket
abbrev pub CallsAs : Kind → ℕ → Retire → Ticket → Cpu → Cpu → Type 0
CallsAs kind moment job t p q = IsAccepted moment kind (version_of job) job t p.state q.state

-- Its processor accepted this job by one call, which the thread counted as one of its kind.
pub record CallsOnce (job : Retire) (old new : Actor) : Type 0 where
  pub kind : Kind
  pub ticket : Ticket
  pub accepts : CallsAs kind old.moment job ticket old.processor new.processor
  pub counted : new.counters ≡ one_call kind old.counters

-- one barrier more that was opened
abbrev pub one_barrier : Counters → Counters
one_barrier c = record c { barriers = sum_up c.barriers 1 }

-- It is of the same processor, at the same moment, with as many calls left of a burst.
pub record StaysInPlace (old new : Actor) : Type 0 where
  pub cpu : new.cpu ≡ old.cpu
  pub moment : new.moment ≡ old.moment
  pub burst : new.burst ≡ old.burst

-- The thread goes on, and no key more is counted, so its processor accepted nothing.
pub record ActsBeside (old new : Actor) : Type 0 where
  pub goes_on : GoesOn old new
  pub keys : new.keys ≡ old.keys

-- It counted an accepted call of this kind, and nothing else.
pub record CountsCall (kind : Kind) (old new : Actor) : Type 0 where
  pub counted : new.counters ≡ one_call kind old.counters
  pub stays : new.processor ≡ old.processor
  pub beside : ActsBeside old new
  pub place : StaysInPlace old new

-- It counted a barrier more that was opened, and nothing else.
pub record CountsBarrier (old new : Actor) : Type 0 where
  pub counted : new.counters ≡ one_barrier old.counters
  pub beside : ActsBeside old new
  pub place : StaysInPlace old new

-- Its processor made one report, the thread's count rose by one where that was counted, and nothing else was done.
pub record ReportsOnce (old new : Actor) : Type 0 where
  pub counted : Option ℕ
  pub reports : Reports old.processor.state.cpu counted (view_of old.processor.state) (view_of new.processor.state)
  pub told : new.counters.reports ≡ sum_up old.counters.reports (from_bool (is_some counted))
  pub beside : ActsBeside old new
  pub place : StaysInPlace old new
