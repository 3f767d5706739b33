use Rattle.rcu_runtime.specs.Calls.{ShutsAll}
use Rattle.rcu_runtime.proofs.Wholes.{steered_on, steered_whole}
use Rattle.rcu_runtime.proofs.control.Whole+AllParts+Processor+J+Group+J+Hand+J.shut.Goals as goal

pub invariant_of-self : goal.invariant_of-self
invariant_of-self g c = steered_whole g.J.Job.key_of g.J.Job.gives c.self.inside.limit c.self.inside.parts c.shut.new.self c.shut.ensures.same c.self.invariant

pub returns : goal.returns
returns g c = record { shuts = steered_on (ShutsAll c.shut.result) c.args.self.now c.self.inside.parts c.shut.new.self c.self.view_is c.shut.ensures.same c.self.invariant.close.one (record { many = c.shut.ensures.many; shuts = c.shut.ensures.shuts }) }
