use Rattle.std.proofs.Common.{◌<◌, ap, length, arith}
use Rattle.rcu_world.specs.Boards.{GracePeriod}
use Rattle.rcu_world.proofs.Masks.{bits_cleared, length_bits, reported_board}
use Rattle.rcu_world.proofs.boards.Board.report.Goals as goal

pub reported-self-inside-requires : goal.reported-self-inside-requires
reported-self-inside-requires c = omega (arith, c.requires, ap (λ b. length b.owing) c.self.view_is, length_bits c.self.inside.processors c.self.inside.word.mask, c.self.invariant.few)

pub invariant_of-self : goal.invariant_of-self
invariant_of-self c = reported_board c.self.inside.processors c.self.inside.word c.reported-self-inside.result c.args.cpu c.self.invariant c.reported-self-inside.ensures.cleared c.reported-self-inside.ensures.others

pub returns : goal.returns
returns c =
    let there : c.args.cpu < c.self.inside.processors = omega (arith, c.requires, ap (λ b. length b.owing) c.self.view_is, length_bits c.self.inside.processors c.self.inside.word.mask) in
    rw (c.reported-self-inside.ensures.number, ← c.self.view_is) (ap {B = GracePeriod} (λ bs. record { number = c.self.inside.word.seq; owing = bs })
    (bits_cleared c.self.inside.processors c.self.inside.word.mask c.reported-self-inside.result.mask c.args.cpu c.self.invariant.few there c.reported-self-inside.ensures.cleared c.reported-self-inside.ensures.others))
