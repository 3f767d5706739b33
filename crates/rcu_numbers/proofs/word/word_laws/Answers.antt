use Rattle.rcu_numbers.proofs.WordLaws.{clear_same, clear_other, clear_number, owes-all, owes-none}
use Rattle.rcu_numbers.proofs.word.word_laws.Goals as goal

pub returns-clause-cleared : goal.returns-clause-cleared
returns-clause-cleared c = clear_same

pub returns-clause-others : goal.returns-clause-others
returns-clause-others c = clear_other

pub returns-clause-kept : goal.returns-clause-kept
returns-clause-kept c = clear_number

pub returns-clause-begun : goal.returns-clause-begun
returns-clause-begun c = owes-all

pub returns-clause-over : goal.returns-clause-over
returns-clause-over c = owes-none
