use Rattle.std.proofs.lemmas.List.{get_or-replicate}
use Rattle.rcu_jobs.proofs.counts.Counts.new.Goals as goal

pub invariant_of-result-clause-others : goal.invariant_of-result-clause-others
invariant_of-result-clause-others c = λ p least most. get_or-replicate 1024 p 0 0 most
