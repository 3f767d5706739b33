use Rattle.rcu_agreement.proofs.Witness.{agrees, agrees_without}
use Rattle.rcu_parts_law.proofs.Lawful.{closed_answer, sound_answer}
use Rattle.rcu_parts_law.proofs.every_history.Goals as goal
use Rattle.rcu_parts_law.specs.Accounts.{accounts_of}

pub returns : goal.returns
returns g c = record {
  closed = closed_answer;
  sound = sound_answer g.J.Job.key_of g.J.Job.gives;
  one = λ parts closed counts answer. agrees_without (accounts_of parts answer.ends) counts;
  barriers = λ parts closed counts barriers answer. agrees (accounts_of parts answer.ends) counts barriers;
}
