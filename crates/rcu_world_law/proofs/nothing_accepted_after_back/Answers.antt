use Rattle.rcu_world_law.proofs.Closing as lemmas
use Rattle.rcu_world_law.proofs.nothing_accepted_after_back.Goals as goal

pub returns : goal.returns
returns c = lemmas.nothing_accepted_after_back
