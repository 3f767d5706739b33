use Rattle.rcu_numbers.proofs.SnapLaw.{or_three}
use Rattle.std.proofs.Common.{arith}
use Rattle.rcu_numbers.proofs.sequence.ended.Goals as goal

pub returns-clause-next : goal.returns-clause-next
returns-clause-next c = omega (arith, or_three c.args.seq c.requires.progress)

pub returns-clause-idle : goal.returns-clause-idle
returns-clause-idle c = omega (arith, or_three c.args.seq c.requires.progress)

pub returns-clause-small : goal.returns-clause-small
returns-clause-small c = omega (arith, or_three c.args.seq c.requires.progress)
