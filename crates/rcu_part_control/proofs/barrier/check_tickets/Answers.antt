use Rattle.std.proofs.Common.{◌∙◌, sym, arith}
use Rattle.rcu_part_control.proofs.Tickets.{passed_over, counted_next}
use Rattle.rcu_part_control.proofs.barrier.check_tickets.Goals as goal

pub loop-ticket-preserved : goal.loop-ticket-preserved
loop-ticket-preserved c = let i = c.loop-ticket.invariant in let low = c.loop-ticket-test.true in let none = sym c.check_ticket.ensures.fault ∙ c.in_default.is in record {
  counted = counted_next c.args.counts.now c.args.tickets.now c.loop-ticket.ticket-index _ low (c.in_default.ensures.counted) i.counted;
  fault = i.fault ∙ passed_over c.args.counts.now c.args.tickets.now c.loop-ticket.ticket-index _ low none;
}

pub returns-clause-counted : goal.returns-clause-counted
returns-clause-counted c = λ k d low. c.loop-ticket.invariant.counted k d (omega (arith, low, c.loop-ticket-test.false))
