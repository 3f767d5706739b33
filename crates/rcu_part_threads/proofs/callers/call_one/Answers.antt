use Rattle.std.proofs.Common.{[], ◌∷◌, subst}
use Rattle.rcu_lists.specs.declared.pace.Kind.TheVariants.{Plain}
use Rattle.rcu_part_processor.proofs.Accepted.{accepted_told, accepted_ticked}
use Rattle.rcu_part_processor.specs.Calls.{IsAccepted, IsRefusedAs, KeepsAll}
use Rattle.rcu_part_processor.specs.Processors.{view_of}
use Rattle.rcu_part_steps.specs.Reports.{Reports}
use Rattle.rcu_part_threads.proofs.Answering.{answered_by, answered_still, called_as}
use Rattle.rcu_part_threads.proofs.callers.call_one.Goals as goal

pub returns-clause-turns : goal.returns-clause-turns
returns-clause-turns g c = let job = c.args.job in let answer = c.call_rcu-answer.result in let counted = c.quiescent.result in
    let before = c.args.processor.now.state in let called = c.call_rcu-answer.new.self.state in let told = c.quiescent.new.self.state in
    let call = c.call_rcu-answer.ensures.calls in let quiet = c.quiescent.ensures in record {
      called = called;
      told = told;
      counted = counted;
      ticked = c.tick.result;
      calls = called_as answer (λ t. IsAccepted c.args.moment Plain (g.J.Job.key_of job) job t before called) (λ _. KeepsAll before called) (λ r. IsRefusedAs job r before called) call.ok call.err call.refused;
      keeps = quiet.keeps;
      reports = subst (λ cpu. Reports cpu counted (view_of called) (view_of told)) call.same.cpu quiet.reports;
      ticks = c.tick.ensures.ticks;
    }

pub returns-clause-answered : goal.returns-clause-answered
returns-clause-answered g c = let key_of = g.J.Job.key_of in let gives = g.J.Job.gives in let job = c.args.job in let answer = c.call_rcu-answer.result in
    let before = c.args.processor.now in let called = c.call_rcu-answer.new.self in let told = c.quiescent.new.self in let ticked = c.tick.new.self in
    let call = c.call_rcu-answer.ensures.calls in let quiet = c.quiescent.ensures in let tick = c.tick.ensures in
    answered_still key_of gives (job ∷ []) (answer ∷ []) before told ticked tick.count tick.same (accepted_ticked _ c.tick.result told.state ticked.state tick.ticks) tick.sound
    (answered_still key_of gives (job ∷ []) (answer ∷ []) before called told quiet.keeps.count quiet.same (accepted_told c.quiescent.result called.state told.state quiet.reports) quiet.sound
    (answered_by key_of gives _ Plain job answer before called call.same call.ok call.err call.refused call.sound))

pub call_rcu-answer-requires-send-J : goal.call_rcu-answer-requires-send-J
call_rcu-answer-requires-send-J g c κs within = assumption

pub call_rcu-answer-requires-after_bounds : goal.call_rcu-answer-requires-after_bounds
call_rcu-answer-requires-after_bounds g c κs within = assumption

pub quiescent-requires-send-J : goal.quiescent-requires-send-J
quiescent-requires-send-J g c κs within = assumption

pub quiescent-requires-after_bounds : goal.quiescent-requires-after_bounds
quiescent-requires-after_bounds g c κs within = assumption

pub tick-requires-send-J : goal.tick-requires-send-J
tick-requires-send-J g c κs within = assumption

pub tick-requires-after_bounds : goal.tick-requires-after_bounds
tick-requires-after_bounds g c κs within = assumption
