use Rattle.std.proofs.Common.{◌≡◌, ℕ, [], ◌++◌, map, get_or}
use Rattle.rcu_part_threads.proofs.shares.callers_of.Given as goal

abbrev pub invariant-loop-processor : goal.invariant-loop-processor
invariant-loop-processor g l = record {
  order : l.yielded ++ l.processor-iterator.rest.items ≡ l.fn.processors.items;
  processors : map (λ caller. caller.processor) l.callers.items ≡ l.yielded;
  none : (p : ℕ) → get_or (map (λ caller. caller.jobs.items) l.callers.items) p [] ≡ [];
}
