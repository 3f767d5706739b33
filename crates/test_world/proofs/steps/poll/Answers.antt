use Rattle.test_world.proofs.AtRest.{rests}
use Rattle.test_world.proofs.Sends.{sent_as}
use Rattle.test_world.proofs.steps.poll.Goals as goal

pub returns : goal.returns
returns g c = rests g.J.Job.key_of g.J.Job.gives c.args.world.now.core c.poll.new.self.core c.requires c.poll.ensures.stays

pub poll-requires-send-J : goal.poll-requires-send-J
poll-requires-send-J g c κs within = c.type_bounds.send-J

pub poll-requires-send-J-Receipt : goal.poll-requires-send-J-Receipt
poll-requires-send-J-Receipt g c κs within = sent_as 2 1 g.row.J-Receipt c.type_bounds.send-J-Receipt
