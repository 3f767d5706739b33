use Rattle.std.proofs.Common.{refl}
use Rattle.rcu_board.proofs.Stepping.{same_again, same_part}
use Rattle.rcu_runtime_threads.proofs.Steered.{steered_on}
use Rattle.rcu_runtime_threads.proofs.steering.steer.Goals as goal

pub loop-preserved : goal.loop-preserved
loop-preserved g c = record {
  next = tt;
  finite = tt;
  stays = same_again _ _ _ _ _ _ c.loop.invariant.stays c.obey-reply.ensures.stays;
  steered = steered_on g.G.Steering.may c.args.control.now c.loop.control c.obey-reply.new.control c.order.result c.obey-reply.result c.loop.invariant.steered c.order.ensures c.obey-reply.ensures.does;
}

pub loop-init : goal.loop-init
loop-init g c = record { next = tt; finite = tt; stays = same_part _ _; steered = (0, refl) }

pub returns-in-Ended-clause-same : goal.returns-in-Ended-clause-same
returns-in-Ended-clause-same g c = same_again _ _ _ _ _ _ c.loop.invariant.stays c.obey-reply.ensures.stays

pub returns-in-Ended-clause-steers : goal.returns-in-Ended-clause-steers
returns-in-Ended-clause-steers g c =
    steered_on g.G.Steering.may c.args.control.now c.loop.control c.obey-reply.new.control c.order.result c.obey-reply.result c.loop.invariant.steered c.order.ensures c.obey-reply.ensures.does

pub unreachable-requires : goal.unreachable-requires
unreachable-requires g c = let z = c.in-None.ensures.steps in cc
