use Rattle.std.proofs.Common.{◌∙◌, sym}
use Rattle.std.proofs.lemmas.List.{length-map}
use Rattle.rcu_lists.specs.Batches.{batch_items}
use Rattle.rcu_world_processor.specs.Waits.{call}
use Rattle.rcu_world_processor.proofs.counts.batch_len.Goals as goal

pub len-requires : goal.len-requires
len-requires g c = assumption

pub returns : goal.returns
returns g c = c.len.ensures ∙ sym (length-map (batch_items c.args.some.now) (call g.J.Job.key_of))
