use Rattle.std.proofs.Common.{◌∙◌, sym}
use Rattle.test_world.proofs.Sends.{sent_as}
use Rattle.test_world.proofs.steps.expect_here.Goals as goal

pub returns : goal.returns
returns g c = sym c.is_away.ensures ∙ c.if-is_away.false

pub is_away-requires-send-J : goal.is_away-requires-send-J
is_away-requires-send-J g c κs within = c.type_bounds.send-J

pub is_away-requires-send-J-Receipt : goal.is_away-requires-send-J-Receipt
is_away-requires-send-J-Receipt g c κs within = sent_as 2 1 g.row.J-Receipt c.type_bounds.send-J-Receipt

pub is_away-requires-after_bounds : goal.is_away-requires-after_bounds
is_away-requires-after_bounds g c κs within = assumption
