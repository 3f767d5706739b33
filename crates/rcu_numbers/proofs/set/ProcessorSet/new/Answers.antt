use Rattle.std.proofs.Common.{refl}
use Rattle.rcu_numbers.specs.Sets.{number_of_words}
use Rattle.rcu_numbers.proofs.set.ProcessorSet.new.Goals as goal

pub returns : goal.returns
unfolding number_of_words
returns c = refl
