use Rattle.std.proofs.Common.{◌≡◌, drop}
use Rattle.rcu_world.specs.Turns.{ticket_fault}
use Rattle.rcu_world.specs.Views.{state}
use Rattle.rcu_world.proofs.worlds.World.ticket_fault.Given as goal

abbrev pub invariant-loop-ticket : goal.invariant-loop-ticket
invariant-loop-ticket g l = ticket_fault (state g.J.Job.key_of l.self.core) l.tickets ≡ ticket_fault (state g.J.Job.key_of l.self.core) (drop l.ticket-index l.tickets)
