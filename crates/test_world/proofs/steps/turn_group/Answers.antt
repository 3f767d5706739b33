use Rattle.std.proofs.Common.{◌∙◌, sym}
use Rattle.test_world.proofs.AtRest.{rests}
use Rattle.test_world.proofs.Sends.{sent_as}
use Rattle.test_world.proofs.steps.turn_group.Goals as goal

pub returns : goal.returns
returns g c = rests g.J.Job.key_of g.J.Job.gives c.args.world.now.core c.group_turn.new.self.core c.requires c.group_turn.ensures.events.stays

pub group_turn-requires-after_bounds : goal.group_turn-requires-after_bounds
group_turn-requires-after_bounds g c κs within = (assumption, (c.requires.world, (sym c.has_group.ensures ∙ c.if-not-has_group.false, c.requires.rest)))

pub has_group-requires-send-J : goal.has_group-requires-send-J
has_group-requires-send-J g c κs within = c.type_bounds.send-J

pub has_group-requires-send-J-Receipt : goal.has_group-requires-send-J-Receipt
has_group-requires-send-J-Receipt g c κs within = sent_as 2 1 g.row.J-Receipt c.type_bounds.send-J-Receipt

pub group_turn-requires-send-J : goal.group_turn-requires-send-J
group_turn-requires-send-J g c κs within = c.type_bounds.send-J

pub group_turn-requires-send-J-Receipt : goal.group_turn-requires-send-J-Receipt
group_turn-requires-send-J-Receipt g c κs within = sent_as 2 1 g.row.J-Receipt c.type_bounds.send-J-Receipt
