use Rattle.std.proofs.Common.{◌∙◌, subst, arith}
use Rattle.rcu_lists.proofs.Outcomes.{if_ok_never}
use Rattle.rcu_runtime_threads.specs.Rooms.{AreHalvesFor}
use Rattle.rcu_runtime_threads.proofs.rooms.find_post_rooms.Goals as goal

pub returns-clause-posts : goal.returns-clause-posts
returns-clause-posts g c = (c.in_ok-posts.ensures.items, (let many = c.len-many.ensures in let room = c.in_ok-posts.ensures.capacity in omega (arith, many, room)))

pub returns-clause-at_posts : goal.returns-clause-at_posts
returns-clause-at_posts g c = c.in_ok-at_posts.ensures ∙ c.len-many.ensures

pub returns-clause-halves : goal.returns-clause-halves
returns-clause-halves g c = subst (λ n. AreHalvesFor n c.in_ok-halves.halves) c.len-many.ensures c.in_ok-halves.ensures

pub returns-in_err-posts-clause-posts : goal.returns-in_err-posts-clause-posts
returns-in_err-posts-clause-posts g c = if_ok_never _ _ c.from_residual.ensures

pub returns-in_err-posts-clause-at_posts : goal.returns-in_err-posts-clause-at_posts
returns-in_err-posts-clause-at_posts g c = if_ok_never _ _ c.from_residual.ensures

pub returns-in_err-posts-clause-halves : goal.returns-in_err-posts-clause-halves
returns-in_err-posts-clause-halves g c = if_ok_never _ _ c.from_residual.ensures

pub returns-in_err-at_posts-clause-posts : goal.returns-in_err-at_posts-clause-posts
returns-in_err-at_posts-clause-posts g c = if_ok_never _ _ c.from_residual-in_err-at_posts.ensures

pub returns-in_err-at_posts-clause-at_posts : goal.returns-in_err-at_posts-clause-at_posts
returns-in_err-at_posts-clause-at_posts g c = if_ok_never _ _ c.from_residual-in_err-at_posts.ensures

pub returns-in_err-at_posts-clause-halves : goal.returns-in_err-at_posts-clause-halves
returns-in_err-at_posts-clause-halves g c = if_ok_never _ _ c.from_residual-in_err-at_posts.ensures

pub returns-in_err-halves-clause-posts : goal.returns-in_err-halves-clause-posts
returns-in_err-halves-clause-posts g c = if_ok_never _ _ c.from_residual-in_err-halves.ensures

pub returns-in_err-halves-clause-at_posts : goal.returns-in_err-halves-clause-at_posts
returns-in_err-halves-clause-at_posts g c = if_ok_never _ _ c.from_residual-in_err-halves.ensures

pub returns-in_err-halves-clause-halves : goal.returns-in_err-halves-clause-halves
returns-in_err-halves-clause-halves g c = if_ok_never _ _ c.from_residual-in_err-halves.ensures

pub new-requires-room-H-Destruct : goal.new-requires-room-H-Destruct
new-requires-room-H-Destruct g c κs within = assumption

pub new-requires-room-H-Destruct-2 : goal.new-requires-room-H-Destruct-2
new-requires-room-H-Destruct-2 g c κs within = assumption

pub new-requires-room-H-Destruct-3 : goal.new-requires-room-H-Destruct-3
new-requires-room-H-Destruct-3 g c κs within = assumption

pub new-requires-room-P-Destruct : goal.new-requires-room-P-Destruct
new-requires-room-P-Destruct g c κs within = assumption

pub with_room-requires-room-P-Destruct : goal.with_room-requires-room-P-Destruct
with_room-requires-room-P-Destruct g c κs within = assumption

pub drop-posts-requires-room-T-Destruct : goal.drop-posts-requires-room-T-Destruct
drop-posts-requires-room-T-Destruct g c κs within = assumption

pub drop-posts-requires-in_err-halves-room-T-Destruct : goal.drop-posts-requires-in_err-halves-room-T-Destruct
drop-posts-requires-in_err-halves-room-T-Destruct g c κs within = assumption

pub drop-at_posts-requires-room-T-Destruct : goal.drop-at_posts-requires-room-T-Destruct
drop-at_posts-requires-room-T-Destruct g c κs within = assumption

pub drop-at_posts-requires-room-T-Destruct-2 : goal.drop-at_posts-requires-room-T-Destruct-2
drop-at_posts-requires-room-T-Destruct-2 g c κs within = assumption

pub drop-at_posts-requires-room-T-Destruct-3 : goal.drop-at_posts-requires-room-T-Destruct-3
drop-at_posts-requires-room-T-Destruct-3 g c κs within = assumption

pub drop-at_posts-requires-room-T-Destruct-4 : goal.drop-at_posts-requires-room-T-Destruct-4
drop-at_posts-requires-room-T-Destruct-4 g c κs within = assumption

pub drop-at_posts-requires-in_err-halves-room-T-Destruct : goal.drop-at_posts-requires-in_err-halves-room-T-Destruct
drop-at_posts-requires-in_err-halves-room-T-Destruct g c κs within = assumption
