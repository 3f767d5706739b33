use Rattle.std.proofs.Common.{◌∙◌, ap, arith, sym}
use Rattle.rcu_world.specs.Turns.{barrier_fault}
use Rattle.rcu_world.specs.Views.{state}
use Rattle.rcu_world.proofs.Entering.{not_there}
use Rattle.rcu_world.proofs.Faults.{caller_absent, caller_there}
use Rattle.rcu_world.proofs.Seen.{has_at}
use Rattle.rcu_world.proofs.worlds.World.barrier_fault.Goals as goal

pub returns-in-Some : goal.returns-in-Some
returns-in-Some g c = sym (caller_absent (state g.J.Job.key_of c.args.self.now.core) c.args.by c.args.tickets.now c.in-Some.cpu c.in-Some.is (not_there g.J.Job.key_of c.args.self.now.core c.in-Some.cpu (omega arith)))

pub returns-in-Some-2 : goal.returns-in-Some-2
returns-in-Some-2 g c = c.ticket_fault.ensures ∙ sym (caller_there (state g.J.Job.key_of c.args.self.now.core) c.args.by c.args.tickets.now c.in-Some.cpu c.in-Some.is (has_at g.J.Job.key_of c.args.self.now.core c.in-Some.cpu (omega arith)))

pub returns-in-None : goal.returns-in-None
returns-in-None g c = c.ticket_fault-in-None.ensures ∙ sym (ap (λ b. barrier_fault (state g.J.Job.key_of c.args.self.now.core) b c.args.tickets.now) c.in-None.is)

pub ticket_fault-requires-send-J : goal.ticket_fault-requires-send-J
ticket_fault-requires-send-J g c κs within = c.type_bounds.send-J

pub ticket_fault-requires-send-J-Receipt : goal.ticket_fault-requires-send-J-Receipt
ticket_fault-requires-send-J-Receipt g c κs within = c.type_bounds.send-J-Receipt

pub ticket_fault-requires-after_bounds : goal.ticket_fault-requires-after_bounds
ticket_fault-requires-after_bounds g c κs within = assumption

pub ticket_fault-requires-in-None-send-J : goal.ticket_fault-requires-in-None-send-J
ticket_fault-requires-in-None-send-J g c κs within = c.type_bounds.send-J

pub ticket_fault-requires-in-None-send-J-Receipt : goal.ticket_fault-requires-in-None-send-J-Receipt
ticket_fault-requires-in-None-send-J-Receipt g c κs within = c.type_bounds.send-J-Receipt

pub ticket_fault-requires-in-None-after_bounds : goal.ticket_fault-requires-in-None-after_bounds
ticket_fault-requires-in-None-after_bounds g c κs within = assumption
