use Rattle.std.proofs.Common.{◌≤◌, ◌∙◌, refl, sym, arith}
use Rattle.std.specs.Vec.{vec_capacity, vec_len}
use Rattle.rcu_runtime_threads.specs.Crews.{HasBegun}
use Rattle.rcu_runtime_threads.specs.Stays.{HandStays}
use Rattle.rcu_runtime_threads.proofs.Crews.{all_done, room_for_all, zip_none}
use Rattle.rcu_runtime_threads.proofs.threads.start_hands.Goals as goal
use Rattle.rcu_lemmas.proofs.Zips.{order_after, room_for_more, room_for_one, zip_pushed}

pub loop-hand-preserved : goal.loop-hand-preserved
loop-hand-preserved g c = let l = c.loop-hand in let i = l.invariant in let rest = l.hand-iterator.rest.items in let more = c.next.new.self.rest.items in
    record {
      order = order_after l.yielded rest more c.args.hands.items c.in-Some.hand i.order c.in-Some.ensures.steps.0;
      room = room_for_more (vec_len l.started) (vec_len c.push_reserved.new.self) (vec_capacity l.started) (vec_capacity c.push_reserved.new.self) rest more c.in-Some.hand i.room c.in-Some.ensures.steps.0 c.push_reserved.ensures.len c.push_reserved.ensures.capacity;
      ended = room_for_more (vec_len l.started) (vec_len c.push_reserved.new.self) (vec_capacity c.args.room.ended) (vec_capacity c.args.room.ended) rest more c.in-Some.hand i.ended c.in-Some.ensures.steps.0 c.push_reserved.ensures.len refl;
      started = zip_pushed (HasBegun (λ thread. thread.promise.0.value) (HandStays g.J.Job.key_of g.J.Job.gives)) l.yielded l.started.items c.push_reserved.new.self.items c.in-Some.hand c.start_hand.result c.push_reserved.ensures.items i.started c.start_hand.ensures;
    }

pub invariant_of-result : goal.invariant_of-result
invariant_of-result g c = let i = c.loop-hand.invariant in record { empty = c.args.room.empty.1; fits = omega (arith, i.ended) }

pub start_hand-requires-send-J : goal.start_hand-requires-send-J
start_hand-requires-send-J g c κs within = assumption

pub start_hand-requires-send-S : goal.start_hand-requires-send-S
start_hand-requires-send-S g c κs within = assumption

pub start_hand-requires-send-R : goal.start_hand-requires-send-R
start_hand-requires-send-R g c κs within = assumption

pub start_hand-requires-after_bounds : goal.start_hand-requires-after_bounds
start_hand-requires-after_bounds g c κs within = assumption

pub returns : goal.returns
returns g c = let l = c.loop-hand in let rest = l.hand-iterator.rest.items in let none = sym l.hand-iterator.rest.ok.0 ∙ c.in-None.ensures.steps.0 in
    all_done (HasBegun (λ thread. thread.promise.0.value) (HandStays g.J.Job.key_of g.J.Job.gives)) l.yielded rest c.args.hands.items l.started.items l.invariant.order none l.invariant.started

pub into_iter-hand-iterator-requires-room-T-Destruct : goal.into_iter-hand-iterator-requires-room-T-Destruct
into_iter-hand-iterator-requires-room-T-Destruct g c κs within = assumption

pub next-requires-room-T-Destruct : goal.next-requires-room-T-Destruct
next-requires-room-T-Destruct g c κs within = assumption

pub drop-hand-iterator-requires-room-T-Destruct : goal.drop-hand-iterator-requires-room-T-Destruct
drop-hand-iterator-requires-room-T-Destruct g c κs within = assumption

pub push_reserved-requires : goal.push_reserved-requires
push_reserved-requires g c = let l = c.loop-hand in room_for_one (vec_len l.started) (vec_capacity l.started) l.hand-iterator.rest.items c.next.new.self.rest.items c.in-Some.hand l.invariant.room c.in-Some.ensures.steps.0

pub loop-hand-init : goal.loop-hand-init
loop-hand-init g c = let room = c.args.room in let gives = c.into_iter-hand-iterator.ensures.into_iter_gives.0 in let rest = c.into_iter-hand-iterator.result.rest.items in let all = c.args.hands in let few = c.requires in
    let started : vec_len all ≤ vec_capacity room.started = (let fits = room.fits.0 in omega (arith, few, fits)) in let ended : vec_len all ≤ vec_capacity room.ended = (let fits = room.fits.1 in omega (arith, few, fits)) in record {
      order = gives;
      room = room_for_all (vec_len room.started) (vec_len all) (vec_capacity room.started) room.started.items rest all.items room.started.ok.0 room.empty.0 gives all.ok.0 started;
      ended = room_for_all (vec_len room.started) (vec_len all) (vec_capacity room.ended) room.started.items rest all.items room.started.ok.0 room.empty.0 gives all.ok.0 ended;
      started = zip_none (HasBegun (λ thread. thread.promise.0.value) (HandStays g.J.Job.key_of g.J.Job.gives)) all.items room.started.items room.empty.0;
    }
