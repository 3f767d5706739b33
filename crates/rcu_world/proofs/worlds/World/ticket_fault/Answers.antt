use Rattle.std.proofs.Common.{get_or, ◌∙◌, ap, arith, Some, sym}
use Rattle.std.proofs.lemmas.List.{drop_all}
use denote.Param.{param}
use Rattle.rcu_jobs.specs.declared.Ticket.{Ticket}
use Rattle.rcu_jobs.specs.declared.BarrierFault.TheVariants.{Ahead}
use Rattle.rcu_world.specs.Turns.{ticket_fault}
use Rattle.rcu_world.specs.Views.{state}
use Rattle.rcu_world.proofs.Entering.{not_there}
use Rattle.rcu_world.proofs.Faults.{fault_absent, fault_ahead, fault_later}
use Rattle.rcu_world.proofs.Fitting.{fits_there}
use Rattle.rcu_world.proofs.Leading.{seen_there}
use Rattle.rcu_world.proofs.Seen.{has_at}
use Rattle.rcu_world.proofs.worlds.World.ticket_fault.Goals as goal

pub count-count-requires-send-J : goal.count-count-requires-send-J
count-count-requires-send-J g c κs within = c.type_bounds.send-J

pub count-count-requires-send-J-Receipt : goal.count-count-requires-send-J-Receipt
count-count-requires-send-J-Receipt g c κs within = c.type_bounds.send-J-Receipt

pub count-count-requires-after_bounds : goal.count-count-requires-after_bounds
count-count-requires-after_bounds g c κs within = fits_there (param 0 g.row.J) (param 1 g.row.J-Receipt) assumption

pub returns-then-cpu-len : goal.returns-then-cpu-len
returns-then-cpu-len g c = sym (c.loop-ticket.invariant ∙ fault_absent (state g.J.Job.key_of c.args.self.now.core) c.args.tickets.now c.loop-ticket.ticket-index (record { cpu = 0; number = 0 }) (omega arith)
    (not_there g.J.Job.key_of c.args.self.now.core _ (omega arith)))

pub returns-then-count-number : goal.returns-then-count-number
returns-then-count-number g c =
    let w = state g.J.Job.key_of c.args.self.now.core in
    let e = c.count-count.ensures ∙ ap (λ x. x.count) (seen_there g.J.Job.key_of c.args.self.now.core _ c.index.result.now (omega arith) c.index.ensures) in
    let t : Ticket = get_or c.args.tickets.now c.loop-ticket.ticket-index (record { cpu = 0; number = 0 }) in
    ap (λ n. Some (Ahead t.cpu n)) e ∙ sym (c.loop-ticket.invariant ∙ fault_ahead w c.args.tickets.now c.loop-ticket.ticket-index (record { cpu = 0; number = 0 }) (omega arith)
    (has_at g.J.Job.key_of c.args.self.now.core _ (omega arith)) (omega (arith, e)))

pub loop-ticket-preserved : goal.loop-ticket-preserved
loop-ticket-preserved g c =
    let w = state g.J.Job.key_of c.args.self.now.core in
    let e = c.count-count.ensures ∙ ap (λ x. x.count) (seen_there g.J.Job.key_of c.args.self.now.core _ c.index.result.now (omega arith) c.index.ensures) in
    c.loop-ticket.invariant ∙ fault_later w c.args.tickets.now c.loop-ticket.ticket-index (record { cpu = 0; number = 0 }) (omega arith)
    (has_at g.J.Job.key_of c.args.self.now.core _ (omega arith)) (omega (arith, e))

pub returns : goal.returns
returns g c = sym (c.loop-ticket.invariant ∙ ap (ticket_fault (state g.J.Job.key_of c.args.self.now.core)) (drop_all c.loop-ticket.ticket-index c.args.tickets.now (omega arith)))
