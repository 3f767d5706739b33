use Rattle.std.proofs.Common.{◌≡◌, ◌++◌, ap, length, arith, rules}
use Rattle.std.proofs.lemmas.List.{length-append}
use Rattle.rcu_lists.specs.Batches.{batch_items}
use Rattle.rcu_lists.specs.Labels.{callbacks_of}
use Rattle.rcu_lists.specs.BlockSegments.{block_labelled}
use Rattle.rcu_part_lists.specs.Lanes.{put_calls}
use denote.Param.{param}
use Rattle.rcu_part_lists.proofs.Sizes.{member-batch}
use Rattle.rcu_part_lists.proofs.member_lists.MemberLists.held.Goals as goal

pub overflow_add-result : goal.overflow_add-result
overflow_add-result g c =
    let s = c.args.self.now in
    let rest = callbacks_of (block_labelled s.list) ++ batch_items s.drawn in
    let a = ap length s.order in
    let b = length-append (put_calls s.outlet.rear) (batch_items s.out ++ rest) in
    let d = length-append (batch_items s.out) rest in
    let e = length-append (callbacks_of (block_labelled s.list)) (batch_items s.drawn) in
    let n : c.len.result ≡ length (batch_items s.drawn) = search rules in
    let m : c.len-2.result ≡ length (batch_items s.out) = search rules in omega (arith, s.few)

pub len-requires : goal.len-requires
len-requires g c = member-batch (param 0 g.row.J) assumption

pub len-requires-2 : goal.len-requires-2
len-requires-2 g c = member-batch (param 0 g.row.J) assumption
