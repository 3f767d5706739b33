use Rattle.rcu_lists.proofs.Sizes.{bypass-batch}
use denote.Param.{param}
use Rattle.rcu_lists.proofs.bypass.Bypass.len.Goals as goal

pub len-requires : goal.len-requires
len-requires g c = bypass-batch (param 0 g.row.J) assumption

pub returns : goal.returns
returns g c = c.len.ensures
