-- A call that takes a job on. docs/specification/rules.md, "The calls, step by step"
use Rattle.std.specs.Prelude.{◌≡◌, ℕ, Bool, Result, OnOk, OnErr, IfOk, IfErr}
use Rattle.rcu_jobs.specs.declared.Refused.{Refused}
use Rattle.rcu_jobs.specs.declared.Ticket.{Ticket}
use Rattle.rcu_world_law.specs.States.{State, cpu_at}
use Rattle.rcu_world.specs.declared.cores.Core.{Core}
use Rattle.rcu_world.specs.Ready.{IsRefusal}
use Rattle.rcu_world.specs.Stays.{StaysWorld}
use Rattle.rcu_world.specs.Turns.{Leads, call_events}
use Rattle.rcu_world.specs.Views.{state, SameState}

-- the job of a ticket has its processor's next number
pub record IsTicket (w : State) (p : ℕ) (ticket : Ticket) : Type 0 where
  pub cpu : ticket.cpu ≡ p
  pub number : ticket.number ≡ (cpu_at w p).count

-- Accepted, the job is stamped, and its list released where that is due; refused, it comes back, and nothing changed.
pub record CallsAs {J R : Type 0} (key_of : J → ℕ) (gives : ℕ → R → Type 0) (p moment : ℕ) (lazy : Bool) (job : J) (result : Result Ticket (Refused J)) (old new : Core J R) : Type 0 where
  pub events : OnOk result ((room : Bool) × Leads (state key_of old) (call_events p moment lazy (key_of job) room (state key_of old)) (state key_of new))
  pub ticket : IfOk result (IsTicket (state key_of old) p)
  pub same : OnErr result (SameState key_of old new)
  pub refused : IfErr result (IsRefusal (state key_of old) p job)
  pub stays : StaysWorld key_of gives old new
