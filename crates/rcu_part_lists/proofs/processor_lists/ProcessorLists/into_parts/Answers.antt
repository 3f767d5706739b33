use Rattle.std.proofs.Common.{sym, subst}
use Rattle.rcu_part_lists.specs.Limits.{AreSafe}
use denote.Param.{param}
use Rattle.rcu_part_lists.proofs.Sizes.{processor_lists-bypass}
use Rattle.rcu_lists.proofs.Sizes.{bypass-batch, in_places}
use Rattle.rcu_part_lists.proofs.processor_lists.ProcessorLists.into_parts.Goals as goal

pub returns-clause-safe : goal.returns-clause-safe
returns-clause-safe g c = (subst AreSafe (sym c.into_callbacks.ensures) c.args.self.own_safe, subst AreSafe (sym c.flush-released.ensures.all) c.args.self.safe)

pub array_drop-bypass-requires : goal.array_drop-bypass-requires
array_drop-bypass-requires g c = in_places _ _ _ _ _ _ _ _ _ _ _ _ _ _ _ _ _ _ _ _ (bypass-batch (param 0 g.row.J) (processor_lists-bypass (param 0 g.row.J) assumption))

pub flush-released-requires : goal.flush-released-requires
flush-released-requires g c =
    let b = processor_lists-bypass (param 0 g.row.J) assumption in
    (b, bypass-batch (param 0 g.row.J) b)

pub returns-clause-rear : goal.returns-clause-rear
returns-clause-rear g c = c.into_rear.ensures

pub returns-clause-own : goal.returns-clause-own
returns-clause-own g c = c.into_callbacks.ensures

pub returns-clause-bypass : goal.returns-clause-bypass
returns-clause-bypass g c = c.flush-released.ensures.all
