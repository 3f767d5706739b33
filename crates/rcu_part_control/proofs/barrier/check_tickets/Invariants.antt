use Rattle.std.proofs.Common.{◌≡◌, ◌<◌, ℕ, drop, slice_index_or}
use Rattle.rcu_jobs.specs.declared.Ticket.{Ticket}
use Rattle.rcu_part_control.specs.Barriers.{count_at, first_fault}
use Rattle.rcu_part_control.proofs.barrier.check_tickets.Given as goal

abbrev pub invariant-loop-ticket : goal.invariant-loop-ticket
invariant-loop-ticket l = record {
  counted : (k : ℕ) (d : Ticket) → k < l.ticket-index → ((slice_index_or l.tickets k d).cpu < l.counts.n) × ((slice_index_or l.tickets k d).number < count_at l.counts (slice_index_or l.tickets k d).cpu);
  fault : first_fault l.counts l.tickets ≡ first_fault l.counts (drop l.ticket-index l.tickets);
}
