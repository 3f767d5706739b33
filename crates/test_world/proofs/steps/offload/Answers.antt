use Rattle.test_world.proofs.AtRest.{rests}
use Rattle.test_world.proofs.steps.offload.Goals as goal

pub returns : goal.returns
returns g c = rests g.J.Job.key_of g.J.Job.gives c.args.world.now.core c.offload.new.self.core c.requires c.offload.ensures.events.stays
