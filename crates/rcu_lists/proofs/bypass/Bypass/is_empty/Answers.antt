use Rattle.rcu_lists.proofs.Sizes.{bypass-batch}
use denote.Param.{param}
use Rattle.rcu_lists.proofs.bypass.Bypass.is_empty.Goals as goal

pub is_empty-requires : goal.is_empty-requires
is_empty-requires g c = bypass-batch (param 0 g.row.J) assumption

pub returns : goal.returns
returns g c = c.is_empty.ensures
