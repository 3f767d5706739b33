use Rattle.std.proofs.Common.{rules, ap, sym, subst, refl}
use Rattle.rcu_lists.specs.Segments.{SegmentsRoom}
use Rattle.rcu_world_processor.specs.Waits.{call, waits, waiting}
use Rattle.rcu_world_processor.specs.Views.{seen}
use Rattle.rcu_world_processor.proofs.Rooms.{stamped_own}
use Rattle.rcu_lists.proofs.Outcomes.{if_ok_never, on_ok_never, on_err_said}
use Rattle.rcu_world_processor.proofs.call.WorldProcessor+J+J+Receipt.stamp_own.Goals as goal

pub returns-in_err-reserve-clause-succeeds : goal.returns-in_err-reserve-clause-succeeds
returns-in_err-reserve-clause-succeeds g c = λ h. absurd (let e = c.in_err-reserve.ensures.had h in cc)

pub returns-in_err-reserve-clause-step : goal.returns-in_err-reserve-clause-step
returns-in_err-reserve-clause-step g c = record {
  ok = on_ok_never _ _ c.from_residual.ensures;
  err = (
      let k = g.J.Job.key_of in let o = seen k c.args.self.now in on_err_said _ _ (ap (λ ws. record o { own = waits k ws }) c.reserve.ensures.same.list)
      );
  given = search rules;
}

pub returns-in_err-reserve-clause-due : goal.returns-in_err-reserve-clause-due
returns-in_err-reserve-clause-due g c = if_ok_never _ _ c.from_residual.ensures

pub enqueue-requires-after_bounds : goal.enqueue-requires-after_bounds
enqueue-requires-after_bounds g c κs within = subst (λ s. SegmentsRoom s 1) (sym c.take_fresh-callback.ensures.own) c.in_ok-reserve.ensures.found

pub take_fresh-callback-requires-send-J : goal.take_fresh-callback-requires-send-J
take_fresh-callback-requires-send-J g c κs within = c.type_bounds.send-J

pub take_fresh-callback-requires-send-J-Receipt : goal.take_fresh-callback-requires-send-J-Receipt
take_fresh-callback-requires-send-J-Receipt g c κs within = c.type_bounds.send-J-Receipt

pub take_fresh-callback-requires-after_bounds : goal.take_fresh-callback-requires-after_bounds
take_fresh-callback-requires-after_bounds g c κs within = (assumption, c.requires)

pub returns-clause-step : goal.returns-clause-step
returns-clause-step g c = let k = g.J.Job.key_of in let t = c.take_fresh-callback in let us = waiting k c.reserve.new.self in record {
  ok = stamped_own (seen k c.args.self.now) (seen k t.new.self) us (waiting k c.enqueue.new.list) c.args.number (call k t.result)
      t.ensures.step.made (ap (waits k) c.reserve.ensures.same.list) t.ensures.callback (rw (sym t.ensures.own) c.enqueue.ensures.items);
  err = tt;
  given = λ mark a. t.ensures.step.given mark a;
}

pub returns-clause-due : goal.returns-clause-due
returns-clause-due g c = refl

pub returns-clause-succeeds : goal.returns-clause-succeeds
returns-clause-succeeds g c = λ _. refl
