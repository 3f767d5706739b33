use Rattle.test_world.proofs.AtRest.{rests}
use Rattle.test_world.proofs.steps.deoffload.Goals as goal

pub returns : goal.returns
returns g c = rests g.J.Job.key_of g.J.Job.gives c.args.world.now.core c.deoffload.new.self.core c.requires c.deoffload.ensures.events.stays
