use Rattle.std.proofs.Common.{◌∙◌, sym}
use Rattle.test_world.proofs.AtRest.{rests}
use Rattle.test_world.proofs.Sends.{sent_as}
use Rattle.test_world.proofs.steps.come_back.Goals as goal

pub returns : goal.returns
returns g c = record {
  resting = rests g.J.Job.key_of g.J.Job.gives c.args.world.now.core c.come_back.new.self.core c.requires c.come_back.ensures.events.stays;
  leads = c.come_back.ensures.events.leads;
}

pub come_back-requires-after_bounds : goal.come_back-requires-after_bounds
come_back-requires-after_bounds g c κs within = (assumption, (c.requires.world, (c.requires.there, (sym c.is_away.ensures ∙ c.if-not-is_away.false, c.requires.rest))))

pub is_away-requires-send-J : goal.is_away-requires-send-J
is_away-requires-send-J g c κs within = c.type_bounds.send-J

pub is_away-requires-send-J-Receipt : goal.is_away-requires-send-J-Receipt
is_away-requires-send-J-Receipt g c κs within = sent_as 2 1 g.row.J-Receipt c.type_bounds.send-J-Receipt

pub come_back-requires-send-J : goal.come_back-requires-send-J
come_back-requires-send-J g c κs within = c.type_bounds.send-J

pub come_back-requires-send-J-Receipt : goal.come_back-requires-send-J-Receipt
come_back-requires-send-J-Receipt g c κs within = sent_as 2 1 g.row.J-Receipt c.type_bounds.send-J-Receipt

pub is_away-requires-2-send-J : goal.is_away-requires-2-send-J
is_away-requires-2-send-J g c κs within = c.type_bounds.send-J

pub is_away-requires-2-send-J-Receipt : goal.is_away-requires-2-send-J-Receipt
is_away-requires-2-send-J-Receipt g c κs within = sent_as 2 1 g.row.J-Receipt c.type_bounds.send-J-Receipt

pub is_away-requires-after_bounds : goal.is_away-requires-after_bounds
is_away-requires-after_bounds g c κs within = assumption

pub is_away-requires-2-after_bounds : goal.is_away-requires-2-after_bounds
is_away-requires-2-after_bounds g c κs within = assumption
