use Rattle.rcu_lists.proofs.Outcomes.{if_ok_never}
use Rattle.rcu_runtime_threads.proofs.rooms.AllReserved.new.Goals as goal

pub find_post_rooms-requires-send-J : goal.find_post_rooms-requires-send-J
find_post_rooms-requires-send-J g c κs within = c.type_bounds.send-J

pub find_post_rooms-requires-send-W : goal.find_post_rooms-requires-send-W
find_post_rooms-requires-send-W g c κs within = c.type_bounds.send-W

pub find_post_rooms-requires-send-J-Receipt : goal.find_post_rooms-requires-send-J-Receipt
find_post_rooms-requires-send-J-Receipt g c κs within = c.type_bounds.send-J-Receipt

pub find_post_rooms-requires-after_bounds : goal.find_post_rooms-requires-after_bounds
find_post_rooms-requires-after_bounds g c κs within = assumption

pub find_other_rooms-requires-send-J : goal.find_other_rooms-requires-send-J
find_other_rooms-requires-send-J g c κs within = record { owned = c.type_bounds.send-J.owned; leaving = c.type_bounds.send-J.leaving }

pub find_other_rooms-requires-after_bounds : goal.find_other_rooms-requires-after_bounds
find_other_rooms-requires-after_bounds g c κs within = assumption

pub returns-clause-posts : goal.returns-clause-posts
returns-clause-posts g c = c.in_ok-rooms.ensures.posts

pub returns-clause-at_posts : goal.returns-clause-at_posts
returns-clause-at_posts g c = c.in_ok-rooms.ensures.at_posts

pub returns-clause-halves : goal.returns-clause-halves
returns-clause-halves g c = c.in_ok-rooms.ensures.halves

pub returns-clause-others : goal.returns-clause-others
returns-clause-others g c = c.in_ok-others.ensures

pub returns-in_err-signals-clause-posts : goal.returns-in_err-signals-clause-posts
returns-in_err-signals-clause-posts g c = if_ok_never _ _ c.from_residual.ensures

pub returns-in_err-signals-clause-at_posts : goal.returns-in_err-signals-clause-at_posts
returns-in_err-signals-clause-at_posts g c = if_ok_never _ _ c.from_residual.ensures

pub returns-in_err-signals-clause-halves : goal.returns-in_err-signals-clause-halves
returns-in_err-signals-clause-halves g c = if_ok_never _ _ c.from_residual.ensures

pub returns-in_err-signals-clause-others : goal.returns-in_err-signals-clause-others
returns-in_err-signals-clause-others g c = if_ok_never _ _ c.from_residual.ensures

pub returns-in_err-rooms-clause-posts : goal.returns-in_err-rooms-clause-posts
returns-in_err-rooms-clause-posts g c = if_ok_never _ _ c.from_residual-in_err-rooms.ensures

pub returns-in_err-rooms-clause-at_posts : goal.returns-in_err-rooms-clause-at_posts
returns-in_err-rooms-clause-at_posts g c = if_ok_never _ _ c.from_residual-in_err-rooms.ensures

pub returns-in_err-rooms-clause-halves : goal.returns-in_err-rooms-clause-halves
returns-in_err-rooms-clause-halves g c = if_ok_never _ _ c.from_residual-in_err-rooms.ensures

pub returns-in_err-rooms-clause-others : goal.returns-in_err-rooms-clause-others
returns-in_err-rooms-clause-others g c = if_ok_never _ _ c.from_residual-in_err-rooms.ensures

pub returns-in_err-others-clause-posts : goal.returns-in_err-others-clause-posts
returns-in_err-others-clause-posts g c = if_ok_never _ _ c.from_residual-in_err-others.ensures

pub returns-in_err-others-clause-at_posts : goal.returns-in_err-others-clause-at_posts
returns-in_err-others-clause-at_posts g c = if_ok_never _ _ c.from_residual-in_err-others.ensures

pub returns-in_err-others-clause-halves : goal.returns-in_err-others-clause-halves
returns-in_err-others-clause-halves g c = if_ok_never _ _ c.from_residual-in_err-others.ensures

pub returns-in_err-others-clause-others : goal.returns-in_err-others-clause-others
returns-in_err-others-clause-others g c = if_ok_never _ _ c.from_residual-in_err-others.ensures
