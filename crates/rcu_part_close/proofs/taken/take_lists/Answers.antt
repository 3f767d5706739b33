use Rattle.rcu_lists.specs.Batches.{batch_items}
use Rattle.rcu_part_close.proofs.Endings.{first_fits, rest_fits, takes_then}
use Rattle.rcu_part_close.proofs.taken.take_lists.Goals as goal

pub take_batch-requires : goal.take_batch-requires
take_batch-requires g c = (assumption, first_fits _ _ (batch_items c.args.bypass.now) c.args.own.items c.requires)

pub take_list-requires : goal.take_list-requires
take_list-requires g c = rest_fits (batch_items c.args.bypass.now) c.args.own.items _ _ c.take_batch.ensures.takes c.requires

pub returns : goal.returns
returns g c = takes_then (batch_items c.args.bypass.now) c.args.own.items _ _ _ c.take_batch.ensures.takes c.take_list.ensures
