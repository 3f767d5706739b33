use Rattle.rcu_c_slots.proofs.Opened.{opened_of_the_open}
use Rattle.rcu_c_slots.proofs.laws.opened_slots.Goals as goal

pub returns : goal.returns
returns c = λ shape number slots o. opened_of_the_open shape number slots o
