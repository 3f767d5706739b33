use Rattle.std.proofs.Common.{◌≤◌, subst}
use Rattle.std.specs.Vec.{vec_capacity}
use Rattle.rcuo_replay.proofs.parts.all_here.Goals as goal

pub each_here-requires-clause-room : goal.each_here-requires-clause-room
each_here-requires-clause-room g c κs within = (assumption, (assumption, (c.in_ok-room.ensures.items, subst (λ n. n ≤ vec_capacity c.in_ok-room.room) c.len.ensures c.in_ok-room.ensures.capacity)))

pub drop-parts-requires-room-T-Destruct : goal.drop-parts-requires-room-T-Destruct
drop-parts-requires-room-T-Destruct g c κs within = assumption

pub each_here-requires-send-J : goal.each_here-requires-send-J
each_here-requires-send-J g c κs within = c.type_bounds.send-J

pub each_here-requires-send-J-Receipt : goal.each_here-requires-send-J-Receipt
each_here-requires-send-J-Receipt g c κs within = c.type_bounds.send-J-Receipt

pub drop-parts-requires-in_err-room-3-room-T-Destruct : goal.drop-parts-requires-in_err-room-3-room-T-Destruct
drop-parts-requires-in_err-room-3-room-T-Destruct g c κs within = assumption

pub drop-parts-requires-in_err-room-4-room-T-Destruct : goal.drop-parts-requires-in_err-room-4-room-T-Destruct
drop-parts-requires-in_err-room-4-room-T-Destruct g c κs within = assumption
