use Rattle.std.proofs.Common.{rules}
use Rattle.rcu_board.proofs.Stepping.{same_again}
use Rattle.check_torture.proofs.steerer.Steerer.poll.Goals as goal

pub returns-in-Some : goal.returns-in-Some
returns-in-Some g c = let before = c.loop.invariant.steers in record {
  steers = same_again _ _ _ _ _ _ before.steers c.poll.ensures.same;
  drained = before.drained;
  many = before.many;
}

pub loop-preserved : goal.loop-preserved
loop-preserved g c = let before = c.loop.invariant.steers in record {
  steers = record {
    steers = same_again _ _ _ _ _ _ before.steers c.poll.ensures.same;
    drained = before.drained;
    many = before.many;
  };
  ours = search rules;
}
