use Rattle.std.proofs.Common.{◌≤◌, subst}
use Rattle.std.specs.Vec.{vec_capacity}
use Rattle.rcu_lists.proofs.Outcomes.{if_ok_never}
use Rattle.rcuo_replay.proofs.parts.all_back.Goals as goal

pub each_back-requires-clause-room : goal.each_back-requires-clause-room
each_back-requires-clause-room g c κs within = (assumption, (assumption, (c.in_ok-room.ensures.items, subst (λ n. n ≤ vec_capacity c.in_ok-room.room) c.len.ensures c.in_ok-room.ensures.capacity)))

pub drop-parts-requires-room-T-Destruct : goal.drop-parts-requires-room-T-Destruct
drop-parts-requires-room-T-Destruct g c κs within = assumption

pub drop-parts-requires-room-T-Destruct-2 : goal.drop-parts-requires-room-T-Destruct-2
drop-parts-requires-room-T-Destruct-2 g c κs within = assumption

pub returns-in_err-room-clause-back : goal.returns-in_err-room-clause-back
returns-in_err-room-clause-back g c = if_ok_never _ _ c.from_residual.ensures

pub returns-in_err-room-clause-kept : goal.returns-in_err-room-clause-kept
returns-in_err-room-clause-kept g c = if_ok_never _ _ c.from_residual.ensures

pub each_back-requires-send-J : goal.each_back-requires-send-J
each_back-requires-send-J g c κs within = c.type_bounds.send-J

pub each_back-requires-send-J-Receipt : goal.each_back-requires-send-J-Receipt
each_back-requires-send-J-Receipt g c κs within = c.type_bounds.send-J-Receipt

pub drop-parts-requires-in_err-room-3-room-T-Destruct : goal.drop-parts-requires-in_err-room-3-room-T-Destruct
drop-parts-requires-in_err-room-3-room-T-Destruct g c κs within = assumption

pub drop-parts-requires-in_err-room-4-room-T-Destruct : goal.drop-parts-requires-in_err-room-4-room-T-Destruct
drop-parts-requires-in_err-room-4-room-T-Destruct g c κs within = assumption
