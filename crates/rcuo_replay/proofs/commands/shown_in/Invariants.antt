use Rattle.std.proofs.Common.{None, take}
use Rattle.std.specs.List.{All}
use Rattle.rcu_part_group.specs.Groups.{ShownFor, members_of}
use Rattle.rcuo_replay.proofs.commands.shown_in.Given as goal

abbrev pub invariant-loop-place : goal.invariant-loop-place
invariant-loop-place g l = All (λ x. ShownFor l.cpu None (members_of x.state)) (take l.place l.groups.items)
