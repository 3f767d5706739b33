use Rattle.std.proofs.Common.{refl, subst, sym}
use Rattle.rcu_c_slots.specs.Barriers.{PollsPart}
use Rattle.rcu_c_slots.specs.declared.part.Part.TheVariants as part
use Rattle.rcu_c_slots.proofs.part.Part.poll.Goals as goal

pub returns-in-Control : goal.returns-in-Control
returns-in-Control c = let d = c.poll_control.new.control in subst (λ old. PollsPart c.args.counts c.poll_control.result old (part.Control d)) (sym c.in-Control.is) (d, refl, c.poll_control.ensures)

pub returns-in-Processor : goal.returns-in-Processor
returns-in-Processor c = subst (λ old. PollsPart c.args.counts c.poll.result old (part.Processor c.poll.new.self)) (sym c.in-Processor.is) (c.poll.new.self, refl, c.poll.ensures)
