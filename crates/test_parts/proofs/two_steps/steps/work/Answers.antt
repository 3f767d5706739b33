use Rattle.rcu_board.proofs.Stepping.{same_again}
use Rattle.rcu_part_processor.proofs.TickRuns.{same_processor_again}
use Rattle.test_parts.proofs.two_steps.steps.work.Goals as goal

pub returns-clause-same : goal.returns-clause-same
returns-clause-same c = let p = c.args.processor.state in let q = c.call_rcu-accepted.new.self.state in let r = c.tick.new.self.state in let s = c.quiescent.new.self.state in
    same_processor_again p s c.step.result.state (same_processor_again p r s (same_processor_again p q r c.call_rcu-accepted.ensures.calls.same c.tick.ensures.same) c.quiescent.ensures.same) c.step.ensures.same

pub returns-clause-driver : goal.returns-clause-driver
returns-clause-driver c = same_again _ _ _ _ _ _ c.turn.ensures.same c.turn-2.ensures.same

pub returns-clause-sound : goal.returns-clause-sound
returns-clause-sound c = λ sound. c.step.ensures.sound (c.quiescent.ensures.sound (c.tick.ensures.sound (c.call_rcu-accepted.ensures.calls.sound sound)))
