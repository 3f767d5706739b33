use Rattle.rcu_part_hand.proofs.InOneTurn.{ran_after, ran_in_two_steps}
use Rattle.rcu_part_hand.proofs.laws.turns_in_two_steps.Goals as goal

pub returns : goal.returns
returns g c = record { one = λ seen p q at r. ran_in_two_steps seen p q at r; more = λ ran tried seen o p q cpu before r. ran_after ran tried seen o p q cpu before r }
