use Rattle.std.proofs.Common.{◌<◌, ◌∙◌, ◌∷◌, [], arith, ap, length, map, subst, sym, refl, ◌++◌}
use Rattle.std.proofs.lemmas.List.{map-append, append-nil}
use Rattle.std.specs.List.{remove}
use Rattle.std.proofs.lemmas.Bool.{eqb-true}
use Rattle.rcu_world_processor.specs.Leaving.{left_keys}
use Rattle.rcu_world_processor.specs.Views.{records_of, seen}
use Rattle.rcu_world.specs.Views.{all_seen}
use Rattle.rcu_world.proofs.Leaving.{room_there, room_first, room_rest, moved_one, none_left, room_step}
use Rattle.rcu_world.proofs.Places.{one_out, room_for_one, some_left}
use Rattle.rcu_world.proofs.end.take_apart.Goals as goal

pub remove-jobs-requires : goal.remove-jobs-requires
remove-jobs-requires g c =
    let l : 0 < length c.loop-processors.processors.items = subst (λ n. 0 < n) c.loop-processors.processors.ok.0 (some_left _ (sym c.is_empty.ensures ∙ c.loop-processors-test.true)) in
    let r = room_there g.J.Job.key_of c.loop-processors.processors.items c.loop-processors.rooms.items l c.loop-processors.invariant.rooms in
    omega (arith, c.loop-processors.rooms.ok.0)

pub drain-requires-send-J : goal.drain-requires-send-J
drain-requires-send-J g c κs within = c.type_bounds.send-J

pub drain-requires-send-J-Receipt : goal.drain-requires-send-J-Receipt
drain-requires-send-J-Receipt g c κs within = c.type_bounds.send-J-Receipt

pub drain-requires-after_bounds : goal.drain-requires-after_bounds
drain-requires-after_bounds g c κs within =
    let l : 0 < length c.loop-processors.processors.items = subst (λ n. 0 < n) c.loop-processors.processors.ok.0 (some_left _ (sym c.is_empty.ensures ∙ c.loop-processors-test.true)) in
    let r = room_first g.J.Job.key_of c.loop-processors.processors.items c.loop-processors.rooms.items c.remove-processor.result c.remove-jobs.result l c.remove-processor.ensures.value c.remove-jobs.ensures.value c.loop-processors.invariant.rooms in
    (assumption, omega (arith, r.1, ap length r.0, c.remove-jobs.result.ok.0))

pub loop-processors-preserved : goal.loop-processors-preserved
loop-processors-preserved g c =
    let l : 0 < length c.loop-processors.processors.items = subst (λ n. 0 < n) c.loop-processors.processors.ok.0 (some_left _ (sym c.is_empty.ensures ∙ c.loop-processors-test.true)) in
    let r = room_first g.J.Job.key_of c.loop-processors.processors.items c.loop-processors.rooms.items c.remove-processor.result c.remove-jobs.result l c.remove-processor.ensures.value c.remove-jobs.ensures.value c.loop-processors.invariant.rooms in
    record {
      rooms = rw (c.remove-processor.ensures.items, c.remove-jobs.ensures.items) (room_rest g.J.Job.key_of c.loop-processors.processors.items c.loop-processors.rooms.items l c.loop-processors.invariant.rooms);
      ran = rw (c.push_reserved.ensures.items, c.remove-processor.ensures.items)
          (moved_one (map records_of) records_of (λ x xs. refl) c.loop-processors.ran.items c.loop-processors.processors.items c.remove-processor.result _ l c.remove-processor.ensures.value (c.into_records.ensures ∙ c.drain.ensures.records) ∙ c.loop-processors.invariant.ran);
      back = rw (c.push_reserved-in-loop-processors.ensures.items, c.remove-processor.ensures.items)
          (ap (λ x. x ++ map left_keys (all_seen g.J.Job.key_of (remove c.loop-processors.processors.items 0))) (map-append (λ v. map g.J.Job.key_of v.items) c.loop-processors.back.items (c.drain.new.jobs ∷ []))
          ∙ moved_one (λ ps. map left_keys (all_seen g.J.Job.key_of ps)) (λ p. left_keys (seen g.J.Job.key_of p)) (λ x xs. refl) (map (λ v. map g.J.Job.key_of v.items) c.loop-processors.back.items) c.loop-processors.processors.items c.remove-processor.result _ l c.remove-processor.ensures.value
          (c.drain.ensures.keys ∙ ap (λ x. map g.J.Job.key_of x ++ left_keys (seen g.J.Job.key_of c.remove-processor.result)) r.0)
          ∙ c.loop-processors.invariant.back);
      ran_room = room_step _ _ _ _ _ _ c.push_reserved.ensures.len c.push_reserved.ensures.capacity c.remove-processor.ensures.len c.loop-processors.invariant.ran_room;
      back_room = room_step _ _ _ _ _ _ c.push_reserved-in-loop-processors.ensures.len c.push_reserved-in-loop-processors.ensures.capacity c.remove-processor.ensures.len c.loop-processors.invariant.back_room;
    }

pub returns-clause-ran : goal.returns-clause-ran
returns-clause-ran g c =
    let n = sym c.loop-processors.processors.ok.0 ∙ eqb-true _ _ (sym c.is_empty.ensures ∙ c.loop-processors-test.false) in
    let e = none_left c.loop-processors.processors.items n in
    sym (append-nil c.loop-processors.ran.items) ∙ ap (λ ps. c.loop-processors.ran.items ++ map records_of ps) (sym e) ∙ c.loop-processors.invariant.ran

pub returns-clause-back : goal.returns-clause-back
returns-clause-back g c =
    let n = sym c.loop-processors.processors.ok.0 ∙ eqb-true _ _ (sym c.is_empty.ensures ∙ c.loop-processors-test.false) in
    let e = none_left c.loop-processors.processors.items n in
    sym (append-nil (map (λ v. map g.J.Job.key_of v.items) c.loop-processors.back.items))
    ∙ ap (λ ps. map (λ v. map g.J.Job.key_of v.items) c.loop-processors.back.items ++ map left_keys (all_seen g.J.Job.key_of ps)) (sym e) ∙ c.loop-processors.invariant.back

pub into_records-requires-send-J : goal.into_records-requires-send-J
into_records-requires-send-J g c κs within = c.type_bounds.send-J

pub into_records-requires-send-J-Receipt : goal.into_records-requires-send-J-Receipt
into_records-requires-send-J-Receipt g c κs within = c.type_bounds.send-J-Receipt

pub into_records-requires-after_bounds : goal.into_records-requires-after_bounds
into_records-requires-after_bounds g c κs within = assumption

pub loop-processors-init : goal.loop-processors-init
loop-processors-init g c = record { rooms = c.requires.rooms; ran = refl; back = refl; ran_room = c.requires.ran_room; back_room = c.requires.back_room }

pub remove-processor-requires : goal.remove-processor-requires
remove-processor-requires g c = some_left _ (sym c.is_empty.ensures ∙ c.loop-processors-test.true)

pub push_reserved-requires : goal.push_reserved-requires
push_reserved-requires g c = room_for_one _ _ _ c.loop-processors.invariant.ran_room (some_left _ (sym c.is_empty.ensures ∙ c.loop-processors-test.true))

pub push_reserved-requires-in-loop-processors : goal.push_reserved-requires-in-loop-processors
push_reserved-requires-in-loop-processors g c = room_for_one _ _ _ c.loop-processors.invariant.back_room (some_left _ (sym c.is_empty.ensures ∙ c.loop-processors-test.true))

pub loop-processors-smaller : goal.loop-processors-smaller
loop-processors-smaller g c = one_out _ _ c.remove-processor.ensures.len

pub drop-processors-requires-room-T-Destruct : goal.drop-processors-requires-room-T-Destruct
drop-processors-requires-room-T-Destruct g c κs within = assumption
