use Rattle.std.proofs.Common.{rules, ap}
use Rattle.rcu_world_processor.specs.Waits.{calls}
use Rattle.rcu_world_processor.proofs.bypass.flush.Goals as goal

pub returns-clause-pace : goal.returns-clause-pace
returns-clause-pace g c = record { after = search rules; qhimark = search rules }

pub flush-requires : goal.flush-requires
flush-requires g c = assumption

pub returns-clause-all : goal.returns-clause-all
returns-clause-all g c = ap (calls g.J.Job.key_of) c.flush.ensures.all

pub returns-clause-none : goal.returns-clause-none
returns-clause-none g c = ap (calls g.J.Job.key_of) c.flush.ensures.none
