use Rattle.std.proofs.Common.{ℕ, ◌∙◌, ap, arith}
use Rattle.rcu_numbers.specs.Words.{owes_of}
use Rattle.rcu_numbers.proofs.SetLaws.{added_bit, other_bits}
use Rattle.rcu_numbers.proofs.set.ProcessorSet.add.Goals as goal

pub returns-clause-added : goal.returns-clause-added
returns-clause-added c = let long = c.self.invariant in let low = c.requires in added_bit c.self.inside.words c.args.p (omega arith)

pub returns-clause-others : goal.returns-clause-others
returns-clause-others c = λ q ne. let long = c.self.invariant in let low = c.requires in
    other_bits c.self.inside.words c.args.p (omega arith) q ne ∙ ap (λ (x : ℕ). owes_of x q) c.self.view_is
