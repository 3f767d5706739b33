use Rattle.rcu_numbers.proofs.SnapLaw.{snap-least}
use Rattle.rcu_numbers.proofs.sequence.snap.Goals as goal

pub returns-clause-least : goal.returns-clause-least
returns-clause-least c = snap-least c.args.seq
