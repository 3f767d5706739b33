use Rattle.std.proofs.lemmas.Result.{IfOk-at_ok}
use Rattle.test_world.proofs.AtRest.{rests}
use Rattle.test_world.proofs.Sends.{sent_as}
use Rattle.test_world.proofs.steps.report.Goals as goal

pub returns : goal.returns
returns g c = record {
  resting = rests g.J.Job.key_of g.J.Job.gives c.args.world.now.core c.quiescent.new.self.core c.requires c.quiescent.ensures.events.stays;
  leads = IfOk-at_ok _ c.expect.ensures c.quiescent.ensures.events.leads;
}

pub quiescent-requires-after_bounds : goal.quiescent-requires-after_bounds
quiescent-requires-after_bounds g c κs within = (assumption, (c.requires.world, (c.requires.there, (c.expect_here.ensures, c.requires.rest))))

pub expect_here-requires-after_bounds : goal.expect_here-requires-after_bounds
expect_here-requires-after_bounds g c κs within = assumption

pub expect_here-requires-send-J : goal.expect_here-requires-send-J
expect_here-requires-send-J g c κs within = c.type_bounds.send-J

pub expect_here-requires-send-J-Receipt : goal.expect_here-requires-send-J-Receipt
expect_here-requires-send-J-Receipt g c κs within = c.type_bounds.send-J-Receipt

pub quiescent-requires-send-J : goal.quiescent-requires-send-J
quiescent-requires-send-J g c κs within = c.type_bounds.send-J

pub quiescent-requires-send-J-Receipt : goal.quiescent-requires-send-J-Receipt
quiescent-requires-send-J-Receipt g c κs within = sent_as 2 1 g.row.J-Receipt c.type_bounds.send-J-Receipt
