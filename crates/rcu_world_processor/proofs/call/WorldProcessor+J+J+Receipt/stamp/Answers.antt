use Rattle.std.proofs.Common.{◌≡◌, ◌&&◌, true, false, sym, subst, rules}
use Rattle.std.specs.Prelude.{IfOk}
use Rattle.rcu_world_law.specs.Releases.{releases}
use Rattle.rcu_jobs.specs.Modes.{is_offloaded}
use Rattle.rcu_world_processor.specs.Views.{seen, mark_of}
use Rattle.std.specs.Prelude.{if◌then◌else◌, OnOk}
use Rattle.rcu_world_law.specs.Releases.{pace_after_stamp}
use Rattle.rcu_world_law.specs.Steps.{stamps_into, with_pace}
use Rattle.rcu_world_processor.proofs.call.WorldProcessor+J+J+Receipt.stamp.Goals as goal

pub returns-then-is_offloaded-clause-due : goal.returns-then-is_offloaded-clause-due
returns-then-is_offloaded-clause-due g c = let p = c.args.self.now in
    let e : is_offloaded p.mode ≡ true = search rules in
    subst (λ b. IfOk c.stamp_offloaded.result (λ due. due ≡ (b && releases (mark_of p) c.args.lazy c.args.moment (seen g.J.Job.key_of p)))) (sym e) c.stamp_offloaded.ensures.due

pub returns-then-is_offloaded-clause-succeeds : goal.returns-then-is_offloaded-clause-succeeds
returns-then-is_offloaded-clause-succeeds g c = let e : is_offloaded c.args.self.now.mode ≡ true = search rules in λ r. c.stamp_offloaded.ensures.succeeds (r.0 e)

pub returns-else-is_offloaded-clause-due : goal.returns-else-is_offloaded-clause-due
returns-else-is_offloaded-clause-due g c = let p = c.args.self.now in
    let e : is_offloaded p.mode ≡ false = search rules in
    subst (λ b. IfOk c.stamp_own.result (λ due. due ≡ (b && releases (mark_of p) c.args.lazy c.args.moment (seen g.J.Job.key_of p)))) (sym e) c.stamp_own.ensures.due

pub returns-else-is_offloaded-clause-succeeds : goal.returns-else-is_offloaded-clause-succeeds
returns-else-is_offloaded-clause-succeeds g c = let e : is_offloaded c.args.self.now.mode ≡ false = search rules in λ r. c.stamp_own.ensures.succeeds (r.1 e)

pub returns-then-is_offloaded-clause-step : goal.returns-then-is_offloaded-clause-step
returns-then-is_offloaded-clause-step g c = record {
  ok = let o = seen g.J.Job.key_of c.args.self.now in
      let e : is_offloaded o.mode ≡ true = search rules in
      subst (λ b. OnOk c.stamp_offloaded.result (seen g.J.Job.key_of c.stamp_offloaded.new.self ≡ (if b then with_pace (pace_after_stamp c.args.lazy c.args.moment o) (stamps_into true c.args.number o) else stamps_into false c.args.number o))) (sym e) c.stamp_offloaded.ensures.step.ok;
  err = c.stamp_offloaded.ensures.step.err;
  given = c.stamp_offloaded.ensures.step.given;
}

pub returns-else-is_offloaded-clause-step : goal.returns-else-is_offloaded-clause-step
returns-else-is_offloaded-clause-step g c = record {
  ok = let o = seen g.J.Job.key_of c.args.self.now in
      let e : is_offloaded o.mode ≡ false = search rules in
      subst (λ b. OnOk c.stamp_own.result (seen g.J.Job.key_of c.stamp_own.new.self ≡ (if b then with_pace (pace_after_stamp c.args.lazy c.args.moment o) (stamps_into true c.args.number o) else stamps_into false c.args.number o))) (sym e) c.stamp_own.ensures.step.ok;
  err = c.stamp_own.ensures.step.err;
  given = c.stamp_own.ensures.step.given;
}
