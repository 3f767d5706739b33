use Rattle.std.proofs.Common.{◌∙◌, refl, subst, sym}
use Rattle.std.specs.List.{AllZip}
use Rattle.std.specs.Vec.{vec_capacity, vec_len}
use Rattle.rcu_lemmas.proofs.Zips.{order_after, room_for_more, room_for_one, zip_pushed}
use Rattle.rcuo_replay.proofs.Seating.{all_came, none_yet, room_for_all}
use Rattle.rcuo_replay.specs.Presences.{IsHere}
use Rattle.rcuo_replay.proofs.parts.each_here.Goals as goal

pub loop-processor-init : goal.loop-processor-init
loop-processor-init g c = let all = c.args.processors in let rest = c.into_iter-processor-iterator.result.rest.items in let gives = c.into_iter-processor-iterator.ensures.into_iter_gives.0 in record {
  order = gives;
  room = room_for_all (vec_len c.args.room) (vec_len all) (vec_capacity c.args.room) c.args.room.items rest all.items c.args.room.ok.0 c.requires.room.0 gives all.ok.0 c.requires.room.1;
  here = none_yet IsHere c.args.room.items c.requires.room.0;
}

pub push_reserved-requires : goal.push_reserved-requires
push_reserved-requires g c = let l = c.loop-processor in room_for_one (vec_len l.all) (vec_capacity l.all) l.processor-iterator.rest.items c.next.new.self.rest.items c.in-Some.processor l.invariant.room c.in-Some.ensures.steps.0

pub loop-processor-preserved : goal.loop-processor-preserved
loop-processor-preserved g c = let l = c.loop-processor in let i = l.invariant in let rest = l.processor-iterator.rest.items in let more = c.next.new.self.rest.items in let next = c.in-Some.ensures.steps.0 in let put = c.push_reserved.ensures in record {
  order = order_after l.yielded rest more c.args.processors.items c.in-Some.processor i.order next;
  room = room_for_more (vec_len l.all) (vec_len c.push_reserved.new.self) (vec_capacity l.all) (vec_capacity c.push_reserved.new.self) rest more c.in-Some.processor i.room next put.len put.capacity;
  here = zip_pushed IsHere l.yielded l.all.items c.push_reserved.new.self.items c.in-Some.processor _ put.items i.here refl;
}

pub returns : goal.returns
returns g c = let l = c.loop-processor in subst (λ ps. AllZip IsHere ps l.all.items) (all_came l.yielded l.processor-iterator.rest.items c.args.processors.items l.invariant.order (sym l.processor-iterator.rest.ok.0 ∙ c.in-None.ensures.steps.0)) l.invariant.here

pub next-requires-room-T-Destruct : goal.next-requires-room-T-Destruct
next-requires-room-T-Destruct g c κs within = assumption

pub into_iter-processor-iterator-requires-room-T-Destruct : goal.into_iter-processor-iterator-requires-room-T-Destruct
into_iter-processor-iterator-requires-room-T-Destruct g c κs within = assumption

pub drop-processor-iterator-requires-room-T-Destruct : goal.drop-processor-iterator-requires-room-T-Destruct
drop-processor-iterator-requires-room-T-Destruct g c κs within = assumption
