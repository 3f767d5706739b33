use Rattle.std.proofs.Common.{◌≡◌}
use Rattle.rcu_numbers.specs.Words.{all_of}
use Rattle.rcu_numbers.proofs.set.ProcessorSet.of_first.Given as goal

abbrev pub invariant-loop-p : goal.invariant-loop-p
invariant-loop-p l = l.set ≡ all_of l.p
