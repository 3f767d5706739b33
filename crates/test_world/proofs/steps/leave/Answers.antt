use Rattle.std.proofs.lemmas.Result.{IfOk-at_ok}
use Rattle.test_world.proofs.AtRest.{rests}
use Rattle.test_world.proofs.Sends.{sent_as}
use Rattle.test_world.proofs.steps.leave.Goals as goal

pub returns : goal.returns
returns g c = record {
  resting = rests g.J.Job.key_of g.J.Job.gives c.args.world.now.core c.leave.new.self.core c.requires c.leave.ensures.events.stays;
  leads = IfOk-at_ok _ c.expect.ensures c.leave.ensures.events.leads;
}

pub leave-requires-after_bounds : goal.leave-requires-after_bounds
leave-requires-after_bounds g c κs within = (assumption, (c.requires.world, (c.requires.there, (c.expect_here.ensures, c.requires.rest))))

pub expect_here-requires-after_bounds : goal.expect_here-requires-after_bounds
expect_here-requires-after_bounds g c κs within = assumption

pub expect_here-requires-send-J : goal.expect_here-requires-send-J
expect_here-requires-send-J g c κs within = c.type_bounds.send-J

pub expect_here-requires-send-J-Receipt : goal.expect_here-requires-send-J-Receipt
expect_here-requires-send-J-Receipt g c κs within = c.type_bounds.send-J-Receipt

pub leave-requires-send-J : goal.leave-requires-send-J
leave-requires-send-J g c κs within = c.type_bounds.send-J

pub leave-requires-send-J-Receipt : goal.leave-requires-send-J-Receipt
leave-requires-send-J-Receipt g c κs within = sent_as 2 1 g.row.J-Receipt c.type_bounds.send-J-Receipt

pub is_away-requires-send-J : goal.is_away-requires-send-J
is_away-requires-send-J g c κs within = c.type_bounds.send-J

pub is_away-requires-send-J-Receipt : goal.is_away-requires-send-J-Receipt
is_away-requires-send-J-Receipt g c κs within = sent_as 2 1 g.row.J-Receipt c.type_bounds.send-J-Receipt

pub is_away-requires-after_bounds : goal.is_away-requires-after_bounds
is_away-requires-after_bounds g c κs within = assumption
