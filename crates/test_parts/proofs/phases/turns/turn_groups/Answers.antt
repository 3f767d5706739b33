use Rattle.test_parts.proofs.Keeping.{groups_again, groups_none}
use Rattle.test_parts.proofs.phases.turns.turn_groups.Goals as goal

pub loop-init : goal.loop-init
loop-init g c = groups_none c.args.groups.items

pub loop-preserved : goal.loop-preserved
loop-preserved g c = groups_again c.args.groups.items c.loop.groups.items c.turn_each_group.new.groups.items c.loop.invariant c.turn_each_group.ensures

pub turn_each_group-requires-send-J : goal.turn_each_group-requires-send-J
turn_each_group-requires-send-J g c κs within = assumption

pub turn_each_group-requires-after_bounds : goal.turn_each_group-requires-after_bounds
turn_each_group-requires-after_bounds g c κs within = assumption
