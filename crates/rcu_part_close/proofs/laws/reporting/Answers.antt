use Rattle.std.proofs.Common.{arith}
use Rattle.rcu_part_close.proofs.OwnReports.{as_many_reports, number_at}
use Rattle.rcu_part_close.proofs.laws.reporting.Goals as goal

pub returns-clause-numbers : goal.returns-clause-numbers
returns-clause-numbers c to k x quiets chain reports at = let n = number_at 0 0 to k x quiets (omega arith) chain reports at in omega (arith, n)

pub returns-clause-count : goal.returns-clause-count
returns-clause-count c to quiets chain reports = let n = as_many_reports 0 0 to quiets (omega arith) chain reports in omega (arith, n)
