use Rattle.std.proofs.Common.{refl}
use Rattle.rcu_numbers.specs.Words.{all_but_of}
use Rattle.rcu_numbers.proofs.word.all_but.Goals as goal

pub returns : goal.returns
unfolding all_but_of
returns c = refl
