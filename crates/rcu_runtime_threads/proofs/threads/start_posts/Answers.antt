use Rattle.std.proofs.Common.{◌≤◌, ◌∙◌, refl, sym, arith}
use Rattle.std.specs.Vec.{vec_capacity, vec_len}
use Rattle.rcu_runtime_threads.specs.Crews.{HasBegun}
use Rattle.rcu_runtime_threads.specs.Steps.{PostWorks}
use Rattle.rcu_runtime_threads.proofs.Crews.{all_done, room_for_all, zip_none}
use Rattle.rcu_runtime_threads.proofs.threads.start_posts.Goals as goal
use Rattle.rcu_lemmas.proofs.Zips.{order_after, room_for_more, room_for_one, zip_pushed}

pub loop-post-preserved : goal.loop-post-preserved
loop-post-preserved g c = let l = c.loop-post in let i = l.invariant in let rest = l.post-iterator.rest.items in let more = c.next.new.self.rest.items in
    record {
      order = order_after l.yielded rest more c.args.posts.items c.in-Some.post i.order c.in-Some.ensures.steps.0;
      room = room_for_more (vec_len l.started) (vec_len c.push_reserved.new.self) (vec_capacity l.started) (vec_capacity c.push_reserved.new.self) rest more c.in-Some.post i.room c.in-Some.ensures.steps.0 c.push_reserved.ensures.len c.push_reserved.ensures.capacity;
      ended = room_for_more (vec_len l.started) (vec_len c.push_reserved.new.self) (vec_capacity c.args.room.ended) (vec_capacity c.args.room.ended) rest more c.in-Some.post i.ended c.in-Some.ensures.steps.0 c.push_reserved.ensures.len refl;
      started = zip_pushed (HasBegun (λ thread. thread.promise.0.value) (PostWorks g.J.Job.key_of g.J.Job.gives g.W.Worker.name_of g.W.Worker.ends_as)) l.yielded l.started.items c.push_reserved.new.self.items c.in-Some.post c.start_post.result c.push_reserved.ensures.items i.started c.start_post.ensures;
    }

pub invariant_of-result : goal.invariant_of-result
invariant_of-result g c = let i = c.loop-post.invariant in record { empty = c.args.room.empty.1; fits = omega (arith, i.ended) }

pub start_post-requires-send-J : goal.start_post-requires-send-J
start_post-requires-send-J g c κs within = assumption

pub start_post-requires-send-S : goal.start_post-requires-send-S
start_post-requires-send-S g c κs within = assumption

pub start_post-requires-send-W : goal.start_post-requires-send-W
start_post-requires-send-W g c κs within = assumption

pub start_post-requires-send-R : goal.start_post-requires-send-R
start_post-requires-send-R g c κs within = assumption

pub start_post-requires-after_bounds : goal.start_post-requires-after_bounds
start_post-requires-after_bounds g c κs within = assumption

pub returns : goal.returns
returns g c = let l = c.loop-post in let rest = l.post-iterator.rest.items in let none = sym l.post-iterator.rest.ok.0 ∙ c.in-None.ensures.steps.0 in
    all_done (HasBegun (λ thread. thread.promise.0.value) (PostWorks g.J.Job.key_of g.J.Job.gives g.W.Worker.name_of g.W.Worker.ends_as)) l.yielded rest c.args.posts.items l.started.items l.invariant.order none l.invariant.started

pub into_iter-post-iterator-requires-room-T-Destruct : goal.into_iter-post-iterator-requires-room-T-Destruct
into_iter-post-iterator-requires-room-T-Destruct g c κs within = assumption

pub next-requires-room-T-Destruct : goal.next-requires-room-T-Destruct
next-requires-room-T-Destruct g c κs within = assumption

pub drop-post-iterator-requires-room-T-Destruct : goal.drop-post-iterator-requires-room-T-Destruct
drop-post-iterator-requires-room-T-Destruct g c κs within = assumption

pub push_reserved-requires : goal.push_reserved-requires
push_reserved-requires g c = let l = c.loop-post in room_for_one (vec_len l.started) (vec_capacity l.started) l.post-iterator.rest.items c.next.new.self.rest.items c.in-Some.post l.invariant.room c.in-Some.ensures.steps.0

pub loop-post-init : goal.loop-post-init
loop-post-init g c = let room = c.args.room in let gives = c.into_iter-post-iterator.ensures.into_iter_gives.0 in let rest = c.into_iter-post-iterator.result.rest.items in let all = c.args.posts in let few = c.requires in
    let started : vec_len all ≤ vec_capacity room.started = (let fits = room.fits.0 in omega (arith, few, fits)) in let ended : vec_len all ≤ vec_capacity room.ended = (let fits = room.fits.1 in omega (arith, few, fits)) in record {
      order = gives;
      room = room_for_all (vec_len room.started) (vec_len all) (vec_capacity room.started) room.started.items rest all.items room.started.ok.0 room.empty.0 gives all.ok.0 started;
      ended = room_for_all (vec_len room.started) (vec_len all) (vec_capacity room.ended) room.started.items rest all.items room.started.ok.0 room.empty.0 gives all.ok.0 ended;
      started = zip_none (HasBegun (λ thread. thread.promise.0.value) (PostWorks g.J.Job.key_of g.J.Job.gives g.W.Worker.name_of g.W.Worker.ends_as)) all.items room.started.items room.empty.0;
    }
