use Rattle.rcu_part_processor.proofs.InOneTick.{ran_after, ran_in_two_steps}
use Rattle.rcu_part_processor.proofs.laws.ticks_in_two_steps.Goals as goal

pub returns : goal.returns
returns g c = record { one = λ seen p q r later. ran_in_two_steps seen p q r later; more = λ ran tried seen o p q cpu before r later. ran_after ran tried seen o p q cpu before r later }
