use Rattle.std.proofs.Common.{◌∙◌, ap, map, sym}
use Rattle.std.specs.Vec.{vec_capacity, vec_len}
use Rattle.rcu_runtime_threads.proofs.Crews.{all_came, pushed_taken, room_for_all}
use Rattle.rcu_runtime_threads.proofs.pairs.part.Goals as goal
use Rattle.rcu_lemmas.proofs.Zips.{order_after, room_for_more, room_for_one}

pub loop-post-init : goal.loop-post-init
loop-post-init g c = let all = c.args.posts in let room = c.requires in let rest = c.into_iter-post-iterator.result.rest.items in let gives = c.into_iter-post-iterator.ensures.into_iter_gives.0 in record {
  order = gives;
  processors = (room.processors.0, room_for_all (vec_len c.args.room.processors) (vec_len all) (vec_capacity c.args.room.processors) c.args.room.processors.items rest all.items c.args.room.processors.ok.0 room.processors.0 gives all.ok.0 room.processors.1);
  workers = (room.workers.0, room_for_all (vec_len c.args.room.workers) (vec_len all) (vec_capacity c.args.room.workers) c.args.room.workers.items rest all.items c.args.room.workers.ok.0 room.workers.0 gives all.ok.0 room.workers.1);
  ends = (room.ends.0, room_for_all (vec_len c.args.room.ends) (vec_len all) (vec_capacity c.args.room.ends) c.args.room.ends.items rest all.items c.args.room.ends.ok.0 room.ends.0 gives all.ok.0 room.ends.1);
}

pub push_reserved-requires : goal.push_reserved-requires
push_reserved-requires g c = let l = c.loop-post in room_for_one (vec_len l.processors) (vec_capacity l.processors) l.post-iterator.rest.items c.next.new.self.rest.items c.in-Some.post l.invariant.processors.1 c.in-Some.ensures.steps.0

pub push_reserved-requires-in-loop-post : goal.push_reserved-requires-in-loop-post
push_reserved-requires-in-loop-post g c = let l = c.loop-post in room_for_one (vec_len l.workers) (vec_capacity l.workers) l.post-iterator.rest.items c.next.new.self.rest.items c.in-Some.post l.invariant.workers.1 c.in-Some.ensures.steps.0

pub push_reserved-requires-in-loop-post-2 : goal.push_reserved-requires-in-loop-post-2
push_reserved-requires-in-loop-post-2 g c = let l = c.loop-post in room_for_one (vec_len l.ends) (vec_capacity l.ends) l.post-iterator.rest.items c.next.new.self.rest.items c.in-Some.post l.invariant.ends.1 c.in-Some.ensures.steps.0

pub loop-post-preserved : goal.loop-post-preserved
loop-post-preserved g c = let l = c.loop-post in let i = l.invariant in let rest = l.post-iterator.rest.items in let more = c.next.new.self.rest.items in let post = c.in-Some.post in let next = c.in-Some.ensures.steps.0 in record {
  order = order_after l.yielded rest more c.args.posts.items post i.order next;
  processors = (pushed_taken (λ post. post.processor) l.yielded post l.processors.items c.push_reserved.new.self.items c.push_reserved.ensures.items i.processors.0, room_for_more (vec_len l.processors) (vec_len c.push_reserved.new.self) (vec_capacity l.processors) (vec_capacity c.push_reserved.new.self) rest more post i.processors.1 next c.push_reserved.ensures.len c.push_reserved.ensures.capacity);
  workers = (pushed_taken (λ post. post.worker) l.yielded post l.workers.items c.push_reserved-in-loop-post.new.self.items c.push_reserved-in-loop-post.ensures.items i.workers.0, room_for_more (vec_len l.workers) (vec_len c.push_reserved-in-loop-post.new.self) (vec_capacity l.workers) (vec_capacity c.push_reserved-in-loop-post.new.self) rest more post i.workers.1 next c.push_reserved-in-loop-post.ensures.len c.push_reserved-in-loop-post.ensures.capacity);
  ends = (pushed_taken (λ post. post.end) l.yielded post l.ends.items c.push_reserved-in-loop-post-2.new.self.items c.push_reserved-in-loop-post-2.ensures.items i.ends.0, room_for_more (vec_len l.ends) (vec_len c.push_reserved-in-loop-post-2.new.self) (vec_capacity l.ends) (vec_capacity c.push_reserved-in-loop-post-2.new.self) rest more post i.ends.1 next c.push_reserved-in-loop-post-2.ensures.len c.push_reserved-in-loop-post-2.ensures.capacity);
}

pub returns-clause-processors : goal.returns-clause-processors
returns-clause-processors g c = let l = c.loop-post in l.invariant.processors.0 ∙ ap (λ posts. map (λ post. post.processor) posts) (all_came l.yielded l.post-iterator.rest.items c.args.posts.items l.invariant.order (sym l.post-iterator.rest.ok.0 ∙ c.in-None.ensures.steps.0))

pub returns-clause-workers : goal.returns-clause-workers
returns-clause-workers g c = let l = c.loop-post in l.invariant.workers.0 ∙ ap (λ posts. map (λ post. post.worker) posts) (all_came l.yielded l.post-iterator.rest.items c.args.posts.items l.invariant.order (sym l.post-iterator.rest.ok.0 ∙ c.in-None.ensures.steps.0))

pub returns-clause-ends : goal.returns-clause-ends
returns-clause-ends g c = let l = c.loop-post in l.invariant.ends.0 ∙ ap (λ posts. map (λ post. post.end) posts) (all_came l.yielded l.post-iterator.rest.items c.args.posts.items l.invariant.order (sym l.post-iterator.rest.ok.0 ∙ c.in-None.ensures.steps.0))
