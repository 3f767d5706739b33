use Rattle.std.proofs.Common.{arith}
use Rattle.rcu_numbers.specs.Sets.{number_of_words}
use Rattle.rcu_numbers.proofs.set.ProcessorSet.of_mask.Goals as goal

pub returns : goal.returns
unfolding number_of_words
returns c = omega (arith, c.from.ensures)
