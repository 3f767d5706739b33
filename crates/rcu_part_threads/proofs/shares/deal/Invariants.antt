use Rattle.std.proofs.Common.{◌≡◌, ◌%◌, ◌++◌, length, map}
use Rattle.rcu_part_threads.specs.Dealing.{AreDealt}
use Rattle.rcu_part_threads.proofs.shares.deal.Given as goal

abbrev pub invariant-loop-job : goal.invariant-loop-job
invariant-loop-job g l = record {
  order : l.yielded ++ l.job-iterator.rest.items ≡ l.fn.jobs.items;
  turn : l.next ≡ length l.yielded % l.many;
  processors : map (λ caller. caller.processor) l.callers.items ≡ l.fn.processors.items;
  dealt : AreDealt l.yielded (map (λ caller. caller.jobs.items) l.callers.items);
}
