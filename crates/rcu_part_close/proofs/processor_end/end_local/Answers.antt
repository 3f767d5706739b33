use Rattle.std.proofs.Common.{ap, refl}
use denote.Param.{param}
use Rattle.rcu_part_lists.proofs.Sizes.{processor_lists-bypass}
use Rattle.rcu_lists.proofs.Sizes.{bypass-batch, in_places}
use Rattle.rcu_part_close.proofs.Endings.{local_back, local_ends, local_fits}
use Rattle.rcu_part_close.proofs.processor_end.end_local.Goals as goal
use Rattle.rcu_part_lists.specs.ProcessorLists.{holding}
use Rattle.rcu_part_order.specs.Recorded.{ran_of}

pub returns-clause-ends : goal.returns-clause-ends
returns-clause-ends g c = local_ends g.J.Job.key_of g.J.Job.gives (ran_of c.args.own) _ (holding c.args.processor_lists) _ c.requires.none refl
    (local_back c.args.back c.take_lists.new.jobs _ _ _ _ c.requires.no_job c.into_parts-own_list.ensures.bypass c.into_parts-own_list.ensures.own c.take_lists.ensures)

pub into_parts-own_list-requires : goal.into_parts-own_list-requires
into_parts-own_list-requires g c = (assumption, bypass-batch (param 0 g.row.J) (processor_lists-bypass (param 0 g.row.J) assumption))

pub take_lists-requires : goal.take_lists-requires
take_lists-requires g c = (bypass-batch (param 0 g.row.J) (processor_lists-bypass (param 0 g.row.J) assumption), local_fits c.args.back _ _ _ _ c.requires.no_job c.into_parts-own_list.ensures.bypass c.into_parts-own_list.ensures.own c.requires.room)

pub array_drop-bypass-requires : goal.array_drop-bypass-requires
array_drop-bypass-requires g c = in_places _ _ _ _ _ _ _ _ _ _ _ _ _ _ _ _ _ _ _ _ (bypass-batch (param 0 g.row.J) (processor_lists-bypass (param 0 g.row.J) assumption))

pub returns-clause-back : goal.returns-clause-back
returns-clause-back g c = local_back c.args.back c.take_lists.new.jobs _ _ _ _ c.requires.no_job c.into_parts-own_list.ensures.bypass c.into_parts-own_list.ensures.own c.take_lists.ensures

pub returns-clause-kept : goal.returns-clause-kept
returns-clause-kept g c = ap (λ v. v.items) c.into_left.ensures
