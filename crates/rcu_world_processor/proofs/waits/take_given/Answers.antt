use Rattle.std.proofs.Common.{min}
use Rattle.rcu_world_law.specs.LabelledLists.{done_count}
use Rattle.rcu_lists.specs.Batches.{batch_items}
use Rattle.rcu_lists.specs.Segments.{labelled}
use Rattle.rcu_world_processor.specs.Waits.{waiting}
use Rattle.rcu_world_processor.proofs.Amounts.{taken_count}
use Rattle.rcu_world_processor.proofs.Waiting.{done_as, taken_as}
use Rattle.rcu_world_processor.proofs.waits.take_given.Goals as goal

pub returns-clause-given : goal.returns-clause-given
returns-clause-given g c =
    let k = g.J.Job.key_of in
    let l = taken_count c.args.most c.done_len.result _ _ c.min-count.result _ c.done_len.ensures.number (done_as k (labelled c.args.list.now) c.done_len.ensures.labelled) c.min-count.ensures c.in_ok-given.ensures.number in
    (taken_as k (min c.args.most (done_count (waiting k c.args.list.now))) (labelled c.args.list.now) (labelled c.take_batch.new.self) (batch_items c.in_ok-given.given) c.in_ok-given.ensures.taken l).0

pub returns-clause-list : goal.returns-clause-list
returns-clause-list g c =
    let k = g.J.Job.key_of in
    let l = taken_count c.args.most c.done_len.result _ _ c.min-count.result _ c.done_len.ensures.number (done_as k (labelled c.args.list.now) c.done_len.ensures.labelled) c.min-count.ensures c.in_ok-given.ensures.number in
    (taken_as k (min c.args.most (done_count (waiting k c.args.list.now))) (labelled c.args.list.now) (labelled c.take_batch.new.self) (batch_items c.in_ok-given.given) c.in_ok-given.ensures.taken l).1
