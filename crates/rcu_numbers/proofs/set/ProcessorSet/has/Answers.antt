use Rattle.std.proofs.Common.{◌≡◌, ℕ, true, false, ◌/◌, ◌%◌, ◌^◌, ◌∙◌, sym, ap, get_or, eq-eqb, eqb-true, arith}
use Rattle.std.specs.Prelude.{bit_and}
use Rattle.std.proofs.lemmas.Nat.Bits.{shr_and_one}
use Rattle.rcu_numbers.specs.Words.{owes_of}
use Rattle.rcu_numbers.proofs.SetLaws.{owes-words, none_past}
use Rattle.rcu_numbers.proofs.set.ProcessorSet.has.Goals as goal

pub returns : goal.returns
unfolding owes_of
returns c =
    let w : ℕ = get_or c.self.inside.words (c.args.p / 64) 0 in
    let bit : bit_and (w / 2 ^ (c.args.p % 64)) 1 ≡ owes_of c.args.self.now c.args.p = shr_and_one w (c.args.p % 64)
    ∙ sym (owes-words c.self.inside.words c.args.p) ∙ ap (λ (x : ℕ). owes_of x c.args.p) c.self.view_is in
    (λ e. sym bit ∙ eqb-true _ 1 e, λ e. eq-eqb _ 1 (bit ∙ e))

pub returns-then-p-ge-PARTS_PROCESSORS : goal.returns-then-p-ge-PARTS_PROCESSORS
returns-then-p-ge-PARTS_PROCESSORS c = let long = c.self.invariant in let far = c.if-p-ge-PARTS_PROCESSORS.true in (
  λ e. (let f : false ≡ true = e in cc),
  λ is. absurd (none_past c.self.inside.words c.args.p (omega arith) (ap (λ (x : ℕ). owes_of x c.args.p) c.self.view_is ∙ is)),
)
