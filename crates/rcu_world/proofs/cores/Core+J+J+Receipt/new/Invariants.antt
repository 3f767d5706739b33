use Rattle.std.proofs.Common.{◌≡◌, ◌-◌, ◌++◌, map}
use Rattle.std.specs.List.{AllByRecursion}
use Rattle.rcu_world_law.specs.States.{opening_cpu}
use Rattle.rcu_world_processor.specs.Views.{AreGiven}
use Rattle.rcu_world.specs.Views.{all_seen}
use Rattle.rcu_world.specs.Boards.{bits}
use Rattle.rcu_world.proofs.cores.Core+J+J+Receipt.new.Given as goal

abbrev pub invariant-loop-cpu : goal.invariant-loop-cpu
invariant-loop-cpu g l = record {
  bits : bits l.fn.shape.processors l.fn.shape.offloadable ≡ l.offloadable.items ++ bits (l.fn.shape.processors - l._cpu) l.mask;
  seen : all_seen g.J.Job.key_of l.processors.items ≡ map opening_cpu l.offloadable.items;
  given : AllByRecursion (AreGiven g.J.Job.gives l.fn.shape.qhimark) l.processors.items;
}
