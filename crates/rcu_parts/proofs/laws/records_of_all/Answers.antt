use Rattle.rcu_parts.proofs.KeptWhole.{answers_all, opened_whole, whole_stays}
use Rattle.rcu_parts.proofs.laws.records_of_all.Goals as goal

pub returns-clause-opened : goal.returns-clause-opened
returns-clause-opened g c = opened_whole

pub returns-clause-stays : goal.returns-clause-stays
returns-clause-stays g c = whole_stays

pub returns-clause-accounts : goal.returns-clause-accounts
returns-clause-accounts g c parts closed keep answer = answers_all _ (λ es ends k d lt. (ends k d lt).whole) parts closed keep answer

pub returns-clause-closes : goal.returns-clause-closes
returns-clause-closes g c parts closed keep answer = answers_all _ (λ es closes k d lt. (closes k d lt).ends.whole) parts closed keep answer
