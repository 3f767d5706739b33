use Rattle.std.proofs.Common.{◌∙◌, sym}
use Rattle.std.specs.Vec.{vec_capacity, vec_len}
use Rattle.rcu_runtime_threads.specs.Crews.{HasEnded}
use Rattle.rcu_runtime_threads.proofs.Crews.{all_done, room_for_all, zip_none}
use Rattle.rcu_runtime_threads.proofs.crew.join_all.Goals as goal
use Rattle.rcu_lemmas.proofs.Zips.{order_after, room_for_more, room_for_one, zip_pushed}

pub loop-started-preserved : goal.loop-started-preserved
loop-started-preserved g c = let l = c.loop-started in let i = l.invariant in let rest = l.started-iterator.rest.items in let more = c.next.new.self.rest.items in
    record {
      order = order_after l.yielded rest more c.args.crew.started.items c.in-Some.started i.order c.in-Some.ensures.steps.0;
      room = room_for_more (vec_len l.parts) (vec_len c.push_reserved.new.self) (vec_capacity l.parts) (vec_capacity c.push_reserved.new.self) rest more c.in-Some.started i.room c.in-Some.ensures.steps.0 c.push_reserved.ensures.len c.push_reserved.ensures.capacity;
      ended = zip_pushed (HasEnded (λ thread part. g.P.Promise.kept_by thread.promise part)) l.yielded l.parts.items c.push_reserved.new.self.items c.in-Some.started c.join.result c.push_reserved.ensures.items i.ended c.join.ensures;
    }

pub push_reserved-requires : goal.push_reserved-requires
push_reserved-requires g c = let l = c.loop-started in room_for_one (vec_len l.parts) (vec_capacity l.parts) l.started-iterator.rest.items c.next.new.self.rest.items c.in-Some.started l.invariant.room c.in-Some.ensures.steps.0

pub returns : goal.returns
returns g c = let l = c.loop-started in let rest = l.started-iterator.rest.items in let none = sym l.started-iterator.rest.ok.0 ∙ c.in-None.ensures.steps.0 in
    all_done (HasEnded (λ thread part. g.P.Promise.kept_by thread.promise part)) l.yielded rest c.args.crew.started.items l.parts.items l.invariant.order none l.invariant.ended

pub loop-started-init : goal.loop-started-init
loop-started-init g c = let crew = c.args.crew in let gives = c.into_iter-started-iterator.ensures.into_iter_gives.0 in record {
  order = gives;
  room = room_for_all (vec_len crew.ended) (vec_len crew.started) (vec_capacity crew.ended) crew.ended.items c.into_iter-started-iterator.result.rest.items crew.started.items crew.ended.ok.0 crew.empty gives crew.started.ok.0 crew.fits;
  ended = zip_none (HasEnded (λ thread part. g.P.Promise.kept_by thread.promise part)) crew.started.items crew.ended.items crew.empty;
}
