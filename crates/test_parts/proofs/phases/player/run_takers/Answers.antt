use denote.Param.Send.{sendable}
use Rattle.test_parts.proofs.phases.player.run_takers.Goals as goal

pub join-requires-room-F-FnOnce : goal.join-requires-room-F-FnOnce
join-requires-room-F-FnOnce g c κs within = assumption

pub join-requires-room-G-FnOnce : goal.join-requires-room-G-FnOnce
join-requires-room-G-FnOnce g c κs within = assumption

pub join-requires-room-F-Destruct : goal.join-requires-room-F-Destruct
join-requires-room-F-Destruct g c κs within = assumption

pub join-requires-room-G-Destruct : goal.join-requires-room-G-Destruct
join-requires-room-G-Destruct g c κs within = assumption

pub join-requires-after_bounds : goal.join-requires-after_bounds
join-requires-after_bounds g c κs within = let send = c.type_bounds.send-J in ((assumption, (search sendable, search sendable)), (assumption, search sendable))

pub returns-clause-groups : goal.returns-clause-groups
returns-clause-groups g c = c.join.ensures.first

pub returns-clause-hands : goal.returns-clause-hands
returns-clause-hands g c = c.join.ensures.second
