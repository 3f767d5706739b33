use Rattle.rcu_runtime.specs.Calls.{Switches}
use Rattle.rcu_runtime.proofs.Wholes.{steered_on, steered_whole}
use Rattle.rcu_runtime.proofs.control.Whole+AllParts+Processor+J+Group+J+Hand+J.offload.Goals as goal

pub invariant_of-self : goal.invariant_of-self
invariant_of-self g c = steered_whole g.J.Job.key_of g.J.Job.gives c.self.inside.limit c.self.inside.parts c.offload.new.self c.offload.ensures.same c.self.invariant

pub returns : goal.returns
returns g c = record { asks = steered_on (Switches c.args.p 1 c.offload.result) c.args.self.now c.self.inside.parts c.offload.new.self c.self.view_is c.offload.ensures.same c.self.invariant.close.one c.offload.ensures.asks }
