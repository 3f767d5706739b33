use Rattle.std.proofs.Math.Nat.{le_antisymm, le_of_lt, le_refl}
use Rattle.std.proofs.Common.{◌≡◌, ℕ, ◌+◌, ◌∙◌, subst, sym, refl, arith}
use Rattle.rcu_part_processor.specs.Ticks.{RanDone}
use Rattle.rcu_part_processor.proofs.TickRuns.{done_more, done_none, same_processor, same_processor_again}
use Rattle.rcu_part_steps.proofs.Stopping.{in_time}
use Rattle.rcu_part_steps.proofs.Turning.{steps_none}
use Rattle.rcu_part_processor.proofs.processor.Processor.run_done.Goals as goal

pub loop-ran-init : goal.loop-ran-init
loop-ran-init g c = let s = c.args.self.now.state in record {
  same = same_processor s;
  ran = done_none 0 c.args.seen s s refl refl (steps_none _ _ _ refl) (omega arith);
  seen = c.requires.seen;
  accepted = refl;
  sound = λ sound. sound;
}

pub loop-ran-preserved : goal.loop-ran-preserved
loop-ran-preserved g c = let i = c.loop-ran.invariant in let e = c.run_one.ensures in record {
  same = same_processor_again c.args.self.now.state c.loop-ran.self.state c.run_one.new.self.state i.same e.runs.same;
  ran = done_more c.loop-ran.ran 1 c.loop-ran.ran 1 c.args.seen c.args.self.now.state c.loop-ran.self.state c.run_one.new.self.state i.same.cpu i.ran c.in_default.ensures.runs.does.ran;
  seen = e.sight;
  accepted = e.runs.count ∙ i.accepted;
  sound = λ sound. e.runs.sound (i.sound sound);
}

pub run_one-requires : goal.run_one-requires
run_one-requires g c = (assumption, (assumption, (assumption, c.loop-ran.invariant.seen)))

pub returns-in-Some-clause-first : goal.returns-in-Some-clause-first
returns-in-Some-clause-first g c = in_time c.in-Some.stop c.loop-ran.ran c.args.self.now.state.blimit c.in-Some.ensures.runs.does.counts (λ _. c.loop-ran-test.true)

pub returns-clause-first : goal.returns-clause-first
returns-clause-first g c = refl

pub returns-in-Some-clause-few : goal.returns-in-Some-clause-few
returns-in-Some-clause-few g c = le_of_lt c.loop-ran-test.true

pub returns-clause-few : goal.returns-clause-few
returns-clause-few g c = le_refl _

pub returns-in-Some-clause-runs : goal.returns-in-Some-clause-runs
returns-in-Some-clause-runs g c = record {
  does = let i = c.loop-ran.invariant in let k = c.loop-ran.ran in let n = c.in-Some.ensures.runs.does.not in let same : k + 0 ≡ k = omega arith in
      (k + n.0, subst (λ (m : ℕ). RanDone m (k + n.0) c.args.seen c.args.self.now.state c.run_one.new.self.state) same (done_more k 0 k n.0 c.args.seen c.args.self.now.state c.loop-ran.self.state c.run_one.new.self.state i.same.cpu i.ran n.1), n.2 k);
  same = same_processor_again c.args.self.now.state c.loop-ran.self.state c.run_one.new.self.state c.loop-ran.invariant.same c.run_one.ensures.runs.same;
  count = c.run_one.ensures.runs.count ∙ c.loop-ran.invariant.accepted;
  sound = λ sound. c.run_one.ensures.runs.sound (c.loop-ran.invariant.sound sound);
}

pub returns-clause-runs : goal.returns-clause-runs
returns-clause-runs g c = record {
  does = let i = c.loop-ran.invariant in let b = c.args.self.now.state.blimit in let same : c.loop-ran.ran ≡ b = le_antisymm c.loop-ran.auto.ran-end c.loop-ran-test.false in
      (b, subst (λ (m : ℕ). RanDone m m c.args.seen c.args.self.now.state c.loop-ran.self.state) same i.ran, (sym i.same.blimit, refl));
  same = c.loop-ran.invariant.same;
  count = c.loop-ran.invariant.accepted;
  sound = c.loop-ran.invariant.sound;
}
