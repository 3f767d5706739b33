use Rattle.std.proofs.Common.{◌≡◌, ◌++◌, map}
use Rattle.rcu_part_threads.proofs.callers.split.Given as goal

abbrev pub invariant-loop-one : goal.invariant-loop-one
invariant-loop-one g l = record {
  order : l.yielded ++ l.one-iterator.rest.items ≡ l.fn.called.items;
  processors : l.processors.items ≡ map (λ c. c.processor) l.yielded;
  answers : map (λ own. own.items) l.answers.items ≡ map (λ c. c.answers.items) l.yielded;
}
