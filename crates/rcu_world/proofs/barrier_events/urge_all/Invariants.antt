use Rattle.std.proofs.Common.{◌≡◌, ℕ, take, drop, ◌++◌, length}
use Rattle.std.specs.List.{AllByRecursion}
use Rattle.rcu_world_law.specs.Events.{each_cpu}
use Rattle.rcu_world.specs.Members.{urge_step}
use Rattle.rcu_world_processor.specs.Views.{AreGiven}
use Rattle.rcu_world.specs.Views.{all_seen}
use Rattle.rcu_world.proofs.barrier_events.urge_all.Given as goal

abbrev pub invariant-loop-i : goal.invariant-loop-i
invariant-loop-i g l = record {
  done : each_cpu urge_step 0 (all_seen g.J.Job.key_of l.fn.processors.items)
      ≡ take l.i (all_seen g.J.Job.key_of l.processors.items) ++ each_cpu urge_step l.i (drop l.i (all_seen g.J.Job.key_of l.processors.items));
  rest : drop l.i (all_seen g.J.Job.key_of l.processors.items) ≡ drop l.i (all_seen g.J.Job.key_of l.fn.processors.items);
  len : length l.processors.items ≡ length l.fn.processors.items;
  given : (mark : ℕ) → AllByRecursion (AreGiven g.J.Job.gives mark) l.fn.processors.items → AllByRecursion (AreGiven g.J.Job.gives mark) l.processors.items;
}
