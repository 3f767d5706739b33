use Rattle.std.proofs.Common.{◌≡◌, ◌/◌, ◌^◌, ◌∙◌, sym, ap, eq-eqb, eqb-true}
use Rattle.std.specs.Prelude.{bit_and}
use Rattle.std.specs.Int.{bit_at}
use Rattle.std.proofs.lemmas.Nat.Bits.{shr_and_one}
use Rattle.rcu_numbers.specs.Words.{owes_of}
use Rattle.rcu_numbers.proofs.word.BoardWord.owes.Goals as goal

pub returns : goal.returns
unfolding owes_of
returns c =
    let bit : bit_and (c.mask.result / 2 ^ c.args.p) 1 ≡ bit_at c.args.self.mask c.args.p = shr_and_one c.mask.result c.args.p ∙ ap (λ m. bit_at m c.args.p) c.mask.ensures in
    (λ e. sym bit ∙ eqb-true _ 1 e, λ e. eq-eqb _ 1 (bit ∙ e))
