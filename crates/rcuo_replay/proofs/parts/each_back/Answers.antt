use Rattle.std.proofs.Common.{◌∙◌, subst, sym}
use Rattle.std.specs.List.{AllZip}
use Rattle.std.specs.Vec.{vec_capacity, vec_len}
use Rattle.rcu_lemmas.proofs.Zips.{order_after, room_for_more, room_for_one, zip_pushed}
use Rattle.rcuo_replay.proofs.Seating.{all_came, none_yet, room_for_all}
use Rattle.rcuo_replay.specs.Presences.{IsBack, KeepEachBack, KeepsPresence}
use Rattle.rcuo_replay.proofs.parts.each_back.Goals as goal
use Rattle.rcuo_replay.specs.declared.presence.Presence.TheVariants.{Here}

pub loop-processor-init : goal.loop-processor-init
loop-processor-init g c = let all = c.args.processors in let rest = c.into_iter-processor-iterator.result.rest.items in let gives = c.into_iter-processor-iterator.ensures.into_iter_gives.0 in record {
  order = gives;
  room = room_for_all (vec_len c.args.room) (vec_len all) (vec_capacity c.args.room) c.args.room.items rest all.items c.args.room.ok.0 c.requires.room.0 gives all.ok.0 c.requires.room.1;
  back = none_yet IsBack c.args.room.items c.requires.room.0;
  kept = none_yet (λ x p. KeepsPresence g.J.Job.key_of g.J.Job.gives x (Here p)) c.args.room.items c.requires.room.0;
}

pub push_reserved-requires : goal.push_reserved-requires
push_reserved-requires g c = let l = c.loop-processor in room_for_one (vec_len l.all) (vec_capacity l.all) l.processor-iterator.rest.items c.next.new.self.rest.items c.in-Some.processor l.invariant.room c.in-Some.ensures.steps.0

pub loop-processor-preserved : goal.loop-processor-preserved
loop-processor-preserved g c = let l = c.loop-processor in let i = l.invariant in let rest = l.processor-iterator.rest.items in let more = c.next.new.self.rest.items in let next = c.in-Some.ensures.steps.0 in let put = c.push_reserved.ensures in record {
  order = order_after l.yielded rest more c.args.processors.items c.in-Some.processor i.order next;
  room = room_for_more (vec_len l.all) (vec_len c.push_reserved.new.self) (vec_capacity l.all) (vec_capacity c.push_reserved.new.self) rest more c.in-Some.processor i.room next put.len put.capacity;
  back = zip_pushed IsBack l.yielded l.all.items c.push_reserved.new.self.items c.in-Some.processor _ put.items i.back c.bring_back.ensures.back;
  kept = zip_pushed (λ x p. KeepsPresence g.J.Job.key_of g.J.Job.gives x (Here p)) l.yielded l.all.items c.push_reserved.new.self.items c.in-Some.processor _ put.items i.kept c.bring_back.ensures.kept;
}

pub returns-clause-back : goal.returns-clause-back
returns-clause-back g c = let l = c.loop-processor in subst (λ ps. AllZip IsBack ps l.all.items) (all_came l.yielded l.processor-iterator.rest.items c.args.processors.items l.invariant.order (sym l.processor-iterator.rest.ok.0 ∙ c.in-None.ensures.steps.0)) l.invariant.back

pub returns-clause-kept : goal.returns-clause-kept
returns-clause-kept g c = let l = c.loop-processor in subst (λ ps. KeepEachBack g.J.Job.key_of g.J.Job.gives ps l.all.items) (all_came l.yielded l.processor-iterator.rest.items c.args.processors.items l.invariant.order (sym l.processor-iterator.rest.ok.0 ∙ c.in-None.ensures.steps.0)) l.invariant.kept

pub next-requires-room-T-Destruct : goal.next-requires-room-T-Destruct
next-requires-room-T-Destruct g c κs within = assumption

pub next-requires-room-T-Destruct-2 : goal.next-requires-room-T-Destruct-2
next-requires-room-T-Destruct-2 g c κs within = assumption

pub bring_back-requires-send-J : goal.bring_back-requires-send-J
bring_back-requires-send-J g c κs within = c.type_bounds.send-J

pub bring_back-requires-send-J-Receipt : goal.bring_back-requires-send-J-Receipt
bring_back-requires-send-J-Receipt g c κs within = c.type_bounds.send-J-Receipt

pub bring_back-requires-after_bounds : goal.bring_back-requires-after_bounds
bring_back-requires-after_bounds g c κs within = assumption

pub into_iter-processor-iterator-requires-room-T-Destruct : goal.into_iter-processor-iterator-requires-room-T-Destruct
into_iter-processor-iterator-requires-room-T-Destruct g c κs within = assumption

pub into_iter-processor-iterator-requires-room-T-Destruct-2 : goal.into_iter-processor-iterator-requires-room-T-Destruct-2
into_iter-processor-iterator-requires-room-T-Destruct-2 g c κs within = assumption

pub drop-processor-iterator-requires-room-T-Destruct : goal.drop-processor-iterator-requires-room-T-Destruct
drop-processor-iterator-requires-room-T-Destruct g c κs within = assumption

pub drop-processor-iterator-requires-room-T-Destruct-2 : goal.drop-processor-iterator-requires-room-T-Destruct-2
drop-processor-iterator-requires-room-T-Destruct-2 g c κs within = assumption
