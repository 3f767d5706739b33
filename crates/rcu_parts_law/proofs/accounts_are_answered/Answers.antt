use Rattle.rcu_parts_law.proofs.Lawful.{back_answered, ran_answered, reports_answered, row_answered}
use Rattle.rcu_parts_law.proofs.accounts_are_answered.Goals as goal

pub returns : goal.returns
returns g c = record {
  row = row_answered;
  reports = reports_answered;
  ran = ran_answered;
  back = back_answered g.J.Job.key_of g.J.Job.gives;
}
