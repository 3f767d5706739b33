use Rattle.rcu_part_close.proofs.Closings.{closes, ends}
use Rattle.rcu_part_close.proofs.laws.closing.Goals as goal

pub returns-clause-closes : goal.returns-clause-closes
returns-clause-closes g c n x v others es h sound = closes g.J.Job.key_of g.J.Job.gives n x v others es h sound

pub returns-clause-ends : goal.returns-clause-ends
returns-clause-ends g c n x v others es h = ends g.J.Job.key_of g.J.Job.gives n x v others es h
