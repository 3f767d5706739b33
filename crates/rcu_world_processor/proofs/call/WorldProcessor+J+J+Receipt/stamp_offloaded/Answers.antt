use Rattle.std.proofs.Common.{rules, ◌∙◌, true, ap, sym, subst}
use Rattle.rcu_world_law.specs.Releases.{pace_after_stamp}
use Rattle.rcu_world_law.specs.Steps.{stamps_into, with_pace}
use Rattle.rcu_world_processor.specs.Batches.{bypassed, law_pace, pace}
use Rattle.rcu_world_processor.specs.Views.{seen}
use Rattle.rcu_world_processor.specs.Waits.{call, calls}
use Rattle.rcu_world_processor.proofs.Rooms.{same_bypass, stamped}
use Rattle.rcu_lists.specs.Bypasses.{BypassRoom}
use Rattle.rcu_world_processor.proofs.Sizes.{bypass_fits}
use Rattle.rcu_lists.proofs.Outcomes.{if_ok_never, on_ok_never, on_err_said}
use Rattle.rcu_world_processor.proofs.call.WorldProcessor+J+J+Receipt.stamp_offloaded.Goals as goal

pub returns-in_err-reserve-clause-succeeds : goal.returns-in_err-reserve-clause-succeeds
returns-in_err-reserve-clause-succeeds g c = λ h. absurd (let e = c.in_err-reserve.ensures.had h in cc)

pub returns-clause-step : goal.returns-clause-step
returns-clause-step g c = record {
  ok = (
      let k = g.J.Job.key_of in
      let o = seen k c.args.self.now in
      let m = seen k c.take_fresh-callback.new.self in
      let mid = with_pace (pace c.reserve.new.self) (record o { bypass = bypassed k c.reserve.new.self }) in
      stamped mid m c.args.lazy c.args.moment c.args.number (call k c.take_fresh-callback.result) (bypassed k c.hold.new.bypass) (pace c.hold.new.bypass)
      c.take_fresh-callback.ensures.step.made c.take_fresh-callback.ensures.callback c.hold.ensures.items (c.hold.ensures.pace.after m)
      ∙ ap (λ s. with_pace (pace_after_stamp c.args.lazy c.args.moment s) (stamps_into true c.args.number s))
      (same_bypass o (bypassed k c.reserve.new.self) (pace c.reserve.new.self) (ap (calls k) c.reserve.ensures.same.items) (ap law_pace c.reserve.ensures.same.pace))
      );
  err = search rules;
  given = λ mark a.
      let b = c.take_fresh-callback.ensures.step.given mark (a.0, c.reserve.ensures.same.qhimark ∙ a.1) in
      (b.0, c.hold.ensures.pace.qhimark ∙ b.1);
}

pub reserve-requires : goal.reserve-requires
reserve-requires g c = bypass_fits g.row.J g.row.J-Receipt assumption

pub returns-in_err-reserve-clause-step : goal.returns-in_err-reserve-clause-step
returns-in_err-reserve-clause-step g c = record {
  ok = on_ok_never _ _ c.from_residual.ensures;
  err = (
      let k = g.J.Job.key_of in let o = seen k c.args.self.now in on_err_said _ _ (same_bypass o (bypassed k c.reserve.new.self) (pace c.reserve.new.self) (ap (calls k) c.reserve.ensures.same.items) (ap law_pace c.reserve.ensures.same.pace))
      );
  given = λ mark a. (a.0, c.reserve.ensures.same.qhimark ∙ a.1);
}

pub returns-in_err-reserve-clause-due : goal.returns-in_err-reserve-clause-due
returns-in_err-reserve-clause-due g c = if_ok_never _ _ c.from_residual.ensures

pub hold-requires-after_bounds : goal.hold-requires-after_bounds
hold-requires-after_bounds g c κs within = (bypass_fits g.row.J g.row.J-Receipt assumption, subst (λ b. BypassRoom b 1) (sym c.take_fresh-callback.ensures.bypass) c.in_ok-reserve.ensures.found)
