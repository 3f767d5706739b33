use Rattle.std.proofs.Common.{ap, ◌/◌}
use Rattle.rcu_numbers.proofs.RootLaw.{one_root}
use Rattle.rcu_numbers.proofs.shape.default_stride.Goals as goal

pub returns-clause-stride : goal.returns-clause-stride
returns-clause-stride c = λ r root. ap (λ x. c.args.processors / x)
    (one_root c.args.processors c.isqrt.result r (record { below = c.isqrt.ensures.square_le; above = c.isqrt.ensures.next_square_gt }) root)
