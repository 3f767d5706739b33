use Rattle.std.proofs.Common.{◌≡◌, ℕ, ◌-◌, ◌^◌, ◌∙◌, ap, arith}
use Rattle.std.proofs.lemmas.Nat.Bits.{ones_shr}
use Rattle.rcu_numbers.proofs.word.first_bits.Goals as goal

pub returns : goal.returns
returns c = let back : 64 - (64 - c.args.n) ≡ c.args.n = omega (arith, c.requires.1) in
    ones_shr 64 (64 - c.args.n) (omega arith) ∙ ap (λ (k : ℕ). 2 ^ k - 1) back
