use Rattle.std.proofs.Common.{◌≡◌, ℕ, true, false, ◌∙◌, ap, refl, inl, inr, arith}
use Rattle.std.proofs.lemmas.Bool.{cases_order}
use Rattle.rcu_numbers.specs.Words.{owes_of}
use Rattle.rcu_numbers.proofs.SetLaws.{below, none_from, none_past}
use Rattle.rcu_numbers.proofs.set.ProcessorSet.is_below.Goals as goal

pub returns-then-has : goal.returns-then-has
returns-then-has c = let low = c.loop-p.auto.p in (
  λ e. (let f : false ≡ true = e in cc),
  λ small. absurd (none_from c.args.self.now c.args.n c.loop-p.p small (omega arith) (c.has.ensures.0 c.if-has.true)),
)

pub returns : goal.returns
returns c = let long = c.self.invariant in let over = c.loop-p-test.false in (
  λ _. below c.args.self.now c.args.n (λ q far is. elim (cases_order q c.loop-p.p) [
    | inl e ↦ none_past c.self.inside.words q (omega (arith, e)) (ap (λ (x : ℕ). owes_of x q) c.self.view_is ∙ is)
    | inr o ↦ elim o [
      | inl l ↦ c.loop-p.invariant q far l is
      | inr g ↦ none_past c.self.inside.words q (omega (arith, g)) (ap (λ (x : ℕ). owes_of x q) c.self.view_is ∙ is)
    ]
  ]),
  λ _. refl,
)
