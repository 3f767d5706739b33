use Rattle.std.proofs.Common.{◌∙◌, arith}
use denote.Param.{param}
use Rattle.rcu_world.specs.Members.{is_any}
use Rattle.rcu_world.specs.Views.{state, all_seen}
use Rattle.rcu_world.proofs.Fitting.{fits_there}
use Rattle.rcu_world.proofs.Members.{any_same}
use Rattle.rcu_world.proofs.worlds.World.has_group.Goals as goal

pub returns : goal.returns
returns g c = c.has_member.ensures ∙ any_same (state g.J.Job.key_of c.args.self.now.core) c.args.group is_any 0 (all_seen g.J.Job.key_of c.args.self.now.core.processors.items) (omega arith)

pub has_member-requires-send-J : goal.has_member-requires-send-J
has_member-requires-send-J g c κs within = c.type_bounds.send-J

pub has_member-requires-send-J-Receipt : goal.has_member-requires-send-J-Receipt
has_member-requires-send-J-Receipt g c κs within = c.type_bounds.send-J-Receipt

pub has_member-requires-after_bounds : goal.has_member-requires-after_bounds
has_member-requires-after_bounds g c κs within = (fits_there (param 0 g.row.J) (param 1 g.row.J-Receipt) assumption, c.requires.fit.stride)
