use Rattle.std.proofs.Common.{◌≡◌, ◌+◌, ◌++◌, ◌∙◌, length, map, true, false, [], ◌∷◌, ap, sym, subst, arith, refl}
use Rattle.std.proofs.lemmas.List.{append-nil}
use Rattle.rcu_world_law.specs.LabelledLists.{bare}
use Rattle.rcu_world_law.specs.Lists.{is_nil}
use Rattle.rcu_lists.specs.Segments.{SegmentsRoom}
use Rattle.rcu_world_processor.specs.Batches.{batch}
use Rattle.rcu_world_processor.specs.Waits.{call, waiting, waits}
use Rattle.rcu_world_processor.proofs.Waiting.{join_more, nil_of, tail_shorter}
use Rattle.rcu_lists.proofs.Outcomes.{on_ok_never, on_err_said}
use Rattle.rcu_world_processor.proofs.Taking.{one_has_room}
use Rattle.rcu_world_processor.proofs.waits.join_bare.Goals as goal

pub loop-list-smaller : goal.loop-list-smaller
loop-list-smaller g c =
    let xs = batch g.J.Job.key_of c.loop-list.joined in
    let e : is_nil xs ≡ false = sym c.is_spent.ensures ∙ c.loop-list-test.true in
    let t = tail_shorter xs e in
    let n = ap length c.take_first.ensures.rest in omega (arith, t, n)

pub loop-list-preserved : goal.loop-list-preserved
loop-list-preserved g c =
    let xs = batch g.J.Job.key_of c.loop-list.joined in
    let e : is_nil xs ≡ false = sym c.is_spent.ensures ∙ c.loop-list-test.true in
    let n : length xs ≡ length (batch g.J.Job.key_of c.take_first.new.some) + 1 = tail_shorter xs e ∙ ap (λ ys. length ys + 1) (sym c.take_first.ensures.rest) in
    record {
      all = ap (λ ws. ws ++ map bare (batch g.J.Job.key_of c.take_first.new.some)) c.enqueue.ensures.items
          ∙ ap (λ ys. (waiting g.J.Job.key_of c.loop-list.list ++ bare (call g.J.Job.key_of c.take_first.result) ∷ []) ++ map bare ys) c.take_first.ensures.rest
          ∙ join_more (waiting g.J.Job.key_of c.loop-list.list) xs (call g.J.Job.key_of c.take_first.result) e c.take_first.ensures.first ∙ c.loop-list.invariant.all;
      room = c.enqueue.ensures.room (length (batch g.J.Job.key_of c.take_first.new.some)) (subst (SegmentsRoom c.loop-list.list) n c.loop-list.invariant.room);
    }

pub returns-clause-list : goal.returns-clause-list
returns-clause-list g c =
    let xs = batch g.J.Job.key_of c.loop-list.joined in
    let e : is_nil xs ≡ true = sym c.is_spent.ensures ∙ c.loop-list-test.false in
    sym (append-nil (waiting g.J.Job.key_of c.loop-list.list)) ∙ ap (λ ys. waiting g.J.Job.key_of c.loop-list.list ++ map bare ys) (sym (nil_of xs e)) ∙ c.loop-list.invariant.all

pub returns-clause-joined : goal.returns-clause-joined
returns-clause-joined g c = let e : is_nil (batch g.J.Job.key_of c.loop-list.joined) ≡ true = sym c.is_spent.ensures ∙ c.loop-list-test.false in nil_of (batch g.J.Job.key_of c.loop-list.joined) e

pub returns-in_err-reserve-clause-list : goal.returns-in_err-reserve-clause-list
returns-in_err-reserve-clause-list g c = on_ok_never _ _ c.from_residual.ensures

pub returns-in_err-reserve-clause-joined : goal.returns-in_err-reserve-clause-joined
returns-in_err-reserve-clause-joined g c = on_ok_never _ _ c.from_residual.ensures

pub returns-in_err-reserve-clause-err : goal.returns-in_err-reserve-clause-err
returns-in_err-reserve-clause-err g c = let e : waiting g.J.Job.key_of c.reserve.new.self ≡ waiting g.J.Job.key_of c.args.list.now = ap (waits g.J.Job.key_of) c.reserve.ensures.same.list in
    on_err_said _ ((waiting g.J.Job.key_of c.reserve.new.self ≡ waiting g.J.Job.key_of c.args.list.now) × (batch g.J.Job.key_of c.args.joined.now ≡ batch g.J.Job.key_of c.args.joined.now)) (e, refl)

pub enqueue-requires-after_bounds : goal.enqueue-requires-after_bounds
enqueue-requires-after_bounds g c κs within = let xs = batch g.J.Job.key_of c.loop-list.joined in one_has_room _ (length xs) _ _ c.loop-list.invariant.room (tail_shorter xs (sym c.is_spent.ensures ∙ c.loop-list-test.true))
