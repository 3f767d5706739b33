use Rattle.rcu_runtime_threads.proofs.steering.steer.Given as goal
use Rattle.rcu_part_control.specs.Parts.{SameControl}
use Rattle.rcu_runtime_threads.specs.Steers.{IsSteered}

abbrev pub invariant-loop : goal.invariant-loop
invariant-loop g l = record {
  next : (goal.iterator-loop g).can_next l.iterator';
  finite : (goal.iterator-loop g).is_finite l.iterator';
  stays : SameControl l.fn.control l.control;
  steered : IsSteered g.G.Steering.may l.fn.control l.control;
}
