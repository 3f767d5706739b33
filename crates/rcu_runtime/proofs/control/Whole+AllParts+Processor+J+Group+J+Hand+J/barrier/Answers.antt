use Rattle.rcu_runtime.specs.Calls.{Opens}
use Rattle.rcu_runtime.proofs.Wholes.{steered_on, steered_whole}
use Rattle.rcu_runtime.proofs.control.Whole+AllParts+Processor+J+Group+J+Hand+J.barrier.Goals as goal

pub invariant_of-self : goal.invariant_of-self
invariant_of-self g c = steered_whole g.J.Job.key_of g.J.Job.gives c.self.inside.limit c.self.inside.parts c.barrier.new.self c.barrier.ensures.same c.self.invariant

pub returns : goal.returns
returns g c = record { opens = steered_on (Opens c.args.tickets.now c.barrier.result) c.args.self.now c.self.inside.parts c.barrier.new.self c.self.view_is c.barrier.ensures.same c.self.invariant.close.one c.barrier.ensures.opens }
