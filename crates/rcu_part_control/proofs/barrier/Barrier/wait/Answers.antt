use Rattle.std.proofs.Common.{◌∙◌, refl}
use Rattle.rcu_part_control.specs.Parts.{control_view}
use Rattle.rcu_board.proofs.Stepping.{same_again, same_part}
use Rattle.rcu_part_control.proofs.Waiting.{polled_on, within_itself}
use Rattle.rcu_part_control.proofs.barrier.Barrier.wait.Goals as goal

pub loop-init : goal.loop-init
loop-init g c = record { next = tt; finite = tt; barrier = refl; same = same_part _ _; only = within_itself _ _ _ }

pub returns-in-Some-poll-clause-same : goal.returns-in-Some-poll-clause-same
returns-in-Some-poll-clause-same g c = same_again _ _ _ _ _ _ c.loop.invariant.same c.poll.ensures.same

pub returns-in-Some-poll-clause-only : goal.returns-in-Some-poll-clause-only
returns-in-Some-poll-clause-only g c =
    polled_on c.loop.barrier c.args.self c.poll.result (control_view c.args.by.now) (control_view c.loop.by) (control_view c.poll.new.by) c.loop.invariant.barrier c.loop.invariant.only c.poll.ensures.polls

pub loop-preserved : goal.loop-preserved
loop-preserved g c = let i = c.loop.invariant in let e = c.poll.ensures in record {
  next = tt;
  finite = tt;
  barrier = e.barrier ∙ i.barrier;
  same = same_again _ _ _ _ _ _ i.same e.same;
  only = polled_on c.loop.barrier c.args.self c.poll.result (control_view c.args.by.now) (control_view c.loop.by) (control_view c.poll.new.by) i.barrier i.only e.polls;
}
