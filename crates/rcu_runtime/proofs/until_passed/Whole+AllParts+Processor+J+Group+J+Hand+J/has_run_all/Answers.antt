use Rattle.std.proofs.Common.{Option, subst}
use Rattle.rcu_jobs.specs.declared.Passed.{Passed}
use Rattle.rcu_runtime.specs.Calls.{OnControl, Polls}
use Rattle.rcu_runtime.proofs.Settles.{asked_once, has_run, opened_own}
use Rattle.rcu_runtime.proofs.Drains.{never_refused}
use Rattle.rcu_runtime.proofs.Outcomes.{untrue}
use Rattle.rcu_runtime.proofs.until_passed.Whole+AllParts+Processor+J+Group+J+Hand+J.has_run_all.Goals as goal

pub unreachable-requires : goal.unreachable-requires
unreachable-requires g c = never_refused c.in_default.field-0 c.args.self.now c.barrier.new.self c.in_default.ensures.opens

pub unreachable-requires-in_default-poll : goal.unreachable-requires-in_default-poll
unreachable-requires-in_default-poll g c = c.in_default-poll.ensures.err.number (opened_own c.in-Ok.barrier c.args.self.now c.barrier.new.self c.in-Ok.ensures.opens c.in-Ok.ensures.opens.continues.same)

pub returns-clause-run : goal.returns-clause-run
returns-clause-run g c = λ yes. let counts = c.in-Ok.barrier.counts in
    has_run c.in-Ok.barrier c.in-Some.passed c.args.self.now c.barrier.new.self c.poll.new.self c.self.inside.parts c.in-Ok.ensures.opens c.in-Ok.ensures.opens.continues.same
    (subst (λ (o : Option Passed). OnControl (Polls counts o) c.barrier.new.self c.poll.new.self) c.in-Some.is c.in-Ok-poll.ensures.ok) c.in-Ok-poll.ensures.ok.continues.same c.self.view_is (c.counts_all.ensures yes)

pub returns-clause-asks : goal.returns-clause-asks
returns-clause-asks g c = asked_once c.in-Ok.barrier c.in-Ok-poll.polled c.args.self.now c.barrier.new.self c.poll.new.self c.in-Ok.ensures.opens c.in-Ok-poll.ensures.ok

pub counts_all-requires-after_bounds : goal.counts_all-requires-after_bounds
counts_all-requires-after_bounds g c κs within = assumption

pub barrier-requires-send-J : goal.barrier-requires-send-J
barrier-requires-send-J g c κs within = c.type_bounds.send-J

pub barrier-requires-send-J-Receipt : goal.barrier-requires-send-J-Receipt
barrier-requires-send-J-Receipt g c κs within = c.type_bounds.send-J-Receipt

pub barrier-requires-after_bounds : goal.barrier-requires-after_bounds
barrier-requires-after_bounds g c κs within = assumption

pub poll-requires-send-J : goal.poll-requires-send-J
poll-requires-send-J g c κs within = c.type_bounds.send-J

pub poll-requires-send-J-Receipt : goal.poll-requires-send-J-Receipt
poll-requires-send-J-Receipt g c κs within = c.type_bounds.send-J-Receipt

pub poll-requires-after_bounds : goal.poll-requires-after_bounds
poll-requires-after_bounds g c κs within = assumption

pub returns-in_default-polled-clause-run : goal.returns-in_default-polled-clause-run
returns-in_default-polled-clause-run g c = untrue

pub returns-in_default-polled-clause-asks : goal.returns-in_default-polled-clause-asks
returns-in_default-polled-clause-asks g c = asked_once c.in-Ok.barrier c.in-Ok-poll.polled c.args.self.now c.barrier.new.self c.poll.new.self c.in-Ok.ensures.opens c.in-Ok-poll.ensures.ok
