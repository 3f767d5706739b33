use Rattle.std.proofs.Common.{◌∙◌}
use Rattle.rcu_part_processor.proofs.Claiming.{same_in_two_steps}
use Rattle.test_parts.proofs.two_steps.steps.step.Goals as goal

pub returns-in-Runs-clause-same : goal.returns-in-Runs-clause-same
returns-in-Runs-clause-same c = same_in_two_steps c.args.processor.state c.in-Runs.running.state c.finish.result.state c.in-Runs.ensures.same c.finish.ensures.same

pub returns-in-Runs-clause-sound : goal.returns-in-Runs-clause-sound
returns-in-Runs-clause-sound c = λ sound. c.finish.ensures.sound (c.in-Runs.ensures.sound sound).0 (c.run-receipt.ensures ∙ c.in-Runs.ensures.keyed sound)

pub returns-in-Stops-clause-same : goal.returns-in-Stops-clause-same
returns-in-Stops-clause-same c = c.in-Stops.ensures.stays

pub returns-in-Stops-clause-sound : goal.returns-in-Stops-clause-sound
returns-in-Stops-clause-sound c = λ sound. (c.in-Stops.ensures.sound sound).1
