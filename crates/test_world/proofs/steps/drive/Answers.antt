use Rattle.std.proofs.lemmas.Result.{IfOk-at_ok}
use Rattle.test_world.proofs.AtRest.{rests}
use Rattle.test_world.proofs.Sends.{sent_as}
use Rattle.test_world.proofs.steps.drive.Goals as goal

pub returns : goal.returns
returns g c = record {
  resting = rests g.J.Job.key_of g.J.Job.gives c.args.world.now.core c.driver_turn.new.self.core c.requires c.driver_turn.ensures.events.stays;
  leads = IfOk-at_ok _ c.expect.ensures c.driver_turn.ensures.events.leads;
}

pub driver_turn-requires-send-J : goal.driver_turn-requires-send-J
driver_turn-requires-send-J g c κs within = c.type_bounds.send-J

pub driver_turn-requires-send-J-Receipt : goal.driver_turn-requires-send-J-Receipt
driver_turn-requires-send-J-Receipt g c κs within = sent_as 2 1 g.row.J-Receipt c.type_bounds.send-J-Receipt
