use Rattle.test_world.proofs.AtRest.{rests}
use Rattle.test_world.proofs.Sends.{sent_as}
use Rattle.test_world.proofs.steps.open_by.Goals as goal

pub returns : goal.returns
returns g c = rests g.J.Job.key_of g.J.Job.gives c.args.world.now.core c.barrier.new.self.core c.requires c.barrier.ensures.events.stays

pub barrier-requires-after_bounds : goal.barrier-requires-after_bounds
barrier-requires-after_bounds g c κs within = (assumption, (c.requires.world, ((λ cpu is. let here = c.expect_here.ensures in cc), c.requires.rest)))

pub expect_here-requires-after_bounds : goal.expect_here-requires-after_bounds
expect_here-requires-after_bounds g c κs within = assumption

pub expect_here-requires-send-J : goal.expect_here-requires-send-J
expect_here-requires-send-J g c κs within = c.type_bounds.send-J

pub expect_here-requires-send-J-Receipt : goal.expect_here-requires-send-J-Receipt
expect_here-requires-send-J-Receipt g c κs within = c.type_bounds.send-J-Receipt

pub barrier-requires-send-J : goal.barrier-requires-send-J
barrier-requires-send-J g c κs within = c.type_bounds.send-J

pub barrier-requires-send-J-Receipt : goal.barrier-requires-send-J-Receipt
barrier-requires-send-J-Receipt g c κs within = sent_as 2 1 g.row.J-Receipt c.type_bounds.send-J-Receipt
