use Rattle.std.proofs.Common.{◌≡◌, ◌-◌, ◌*◌, ◌%◌, ◌^◌, ◌≤◌, ◌∙◌, ap, arith, pow_mono}
use Rattle.rcu_numbers.specs.Words.{all_of, owes_of}
use Rattle.rcu_numbers.proofs.WordLaws.{owes-all_of}
use Rattle.rcu_numbers.proofs.word.all_processors.Goals as goal

pub returns-clause-all : goal.returns-clause-all
returns-clause-all c = λ p h.
    let fits : 2 ^ c.args.n ≤ 2 ^ 32 = pow_mono c.requires in
    let value : 1 * 2 ^ c.args.n % 18446744073709551616 - 1 ≡ all_of c.args.n = omega (arith, fits) in
    ap (λ x. owes_of x p) value ∙ owes-all_of c.args.n p h
