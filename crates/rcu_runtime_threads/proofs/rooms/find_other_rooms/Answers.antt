use Rattle.std.proofs.Common.{◌∙◌}
use Rattle.rcu_lists.proofs.Outcomes.{if_ok_never}
use Rattle.rcu_runtime_threads.proofs.rooms.find_other_rooms.Goals as goal

pub returns : goal.returns
returns g c = (c.in_ok-groups.ensures ∙ c.len.ensures, c.in_ok-hands.ensures ∙ c.len-2.ensures)

pub returns-in_err-groups : goal.returns-in_err-groups
returns-in_err-groups g c = if_ok_never _ _ c.from_residual.ensures

pub returns-in_err-hands : goal.returns-in_err-hands
returns-in_err-hands g c = if_ok_never _ _ c.from_residual-in_err-hands.ensures

pub new-requires-room-H-Destruct : goal.new-requires-room-H-Destruct
new-requires-room-H-Destruct g c κs within = assumption

pub new-requires-room-H-Destruct-2 : goal.new-requires-room-H-Destruct-2
new-requires-room-H-Destruct-2 g c κs within = assumption

pub new-requires-room-H-Destruct-3 : goal.new-requires-room-H-Destruct-3
new-requires-room-H-Destruct-3 g c κs within = assumption

pub new-requires-room-P-Destruct : goal.new-requires-room-P-Destruct
new-requires-room-P-Destruct g c κs within = assumption

pub new-requires-2-room-H-Destruct : goal.new-requires-2-room-H-Destruct
new-requires-2-room-H-Destruct g c κs within = assumption

pub new-requires-2-room-H-Destruct-2 : goal.new-requires-2-room-H-Destruct-2
new-requires-2-room-H-Destruct-2 g c κs within = assumption

pub new-requires-2-room-H-Destruct-3 : goal.new-requires-2-room-H-Destruct-3
new-requires-2-room-H-Destruct-3 g c κs within = assumption

pub new-requires-2-room-P-Destruct : goal.new-requires-2-room-P-Destruct
new-requires-2-room-P-Destruct g c κs within = assumption

pub drop-groups-requires-room-T-Destruct : goal.drop-groups-requires-room-T-Destruct
drop-groups-requires-room-T-Destruct g c κs within = assumption

pub drop-groups-requires-room-T-Destruct-2 : goal.drop-groups-requires-room-T-Destruct-2
drop-groups-requires-room-T-Destruct-2 g c κs within = assumption

pub drop-groups-requires-room-T-Destruct-3 : goal.drop-groups-requires-room-T-Destruct-3
drop-groups-requires-room-T-Destruct-3 g c κs within = assumption

pub drop-groups-requires-room-T-Destruct-4 : goal.drop-groups-requires-room-T-Destruct-4
drop-groups-requires-room-T-Destruct-4 g c κs within = assumption

pub drop-groups-requires-in_err-hands-room-T-Destruct : goal.drop-groups-requires-in_err-hands-room-T-Destruct
drop-groups-requires-in_err-hands-room-T-Destruct g c κs within = assumption
