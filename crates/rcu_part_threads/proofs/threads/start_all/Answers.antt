use Rattle.std.proofs.Common.{ap, sym, ◌∙◌}
use Rattle.std.specs.Vec.{vec_capacity, vec_len}
use Rattle.rcu_part_threads.proofs.Zips.{all_started, started_more, some_never}
use Rattle.rcu_part_threads.proofs.threads.start_all.Goals as goal
use Rattle.rcu_lemmas.proofs.Zips.{room_for_more, room_for_one}

pub loop-part-preserved : goal.loop-part-preserved
loop-part-preserved g c = let i = c.loop-part.invariant in
    let more = started_more (λ thread. thread.promise.0.value) c.loop-part.yielded c.loop-part.part-iterator.rest.items c.next.new.self.rest.items c.args.parts.items c.in-Some.part c.loop-part.threads.items c.push_reserved.new.self.items c.in-Some-start.thread i.order c.in-Some.ensures.steps.0 c.push_reserved.ensures.items c.in-Some-start.ensures i.started in record {
      order = more.0;
      room = room_for_more (vec_len c.loop-part.threads) (vec_len c.push_reserved.new.self) (vec_capacity c.loop-part.threads) (vec_capacity c.push_reserved.new.self) c.loop-part.part-iterator.rest.items c.next.new.self.rest.items c.in-Some.part i.room c.in-Some.ensures.steps.0 c.push_reserved.ensures.len c.push_reserved.ensures.capacity;
      started = more.1;
    }

pub returns : goal.returns
returns g c = let i = c.loop-part.invariant in let rest = c.loop-part.part-iterator.rest.items in let none = sym c.loop-part.part-iterator.rest.ok.0 ∙ c.in-None.ensures.steps.0 in
    λ whole. all_started (λ thread. thread.promise.0.value) c.loop-part.yielded rest c.args.parts.items c.loop-part.threads.items c.whole.result.threads.items i.order none (ap (λ v. v.items) c.whole.ensures.0) i.started

pub push_reserved-requires : goal.push_reserved-requires
push_reserved-requires g c = let l = c.loop-part in room_for_one (vec_len l.threads) (vec_capacity l.threads) l.part-iterator.rest.items c.next.new.self.rest.items c.in-Some.part l.invariant.room c.in-Some.ensures.steps.0

pub returns-in_default : goal.returns-in_default
returns-in_default g c = λ whole. some_never (sym c.none.ensures.1 ∙ whole)

pub returns-in_default-start : goal.returns-in_default-start
returns-in_default-start g c = λ whole. some_never (sym c.partial.ensures.1 ∙ whole)
