use Rattle.std.proofs.Common.{subst, sym}
use Rattle.test_parts.specs.Moves.{PollsAs}
use Rattle.test_parts.specs.declared.phases.phase.Reply.TheVariants.{Passed}
use Rattle.test_parts.proofs.phases.moves.poll_barrier.Goals as goal

pub returns-in-Some-poll-clause-polls : goal.returns-in-Some-poll-clause-polls
returns-in-Some-poll-clause-polls c = subst (λ b. PollsAs Passed b c.args.control.now c.poll.new.by) (sym c.in-Some.is) (c.in-Some-poll.field-0, c.in-Some-poll.ensures.polls)
