use Rattle.std.proofs.Common.{◌∙◌, ap, arith}
use Rattle.std.specs.Mem.{FitsInMemory}
use denote.Param.{param}
use Rattle.rcu_lists.proofs.Sizes.{in_places}
use Rattle.rcu_lists.specs.Batches.{batch_items}
use Rattle.rcu_lists.specs.contracts.batch.Batch as batch_row
use Rattle.rcu_part_lists.proofs.Releases.{none-popped}
use Rattle.rcu_part_lists.proofs.lane_ends.pack_whole.Goals as goal

pub take_all-whole-requires : goal.take_all-whole-requires
take_all-whole-requires g c = assumption

pub pack_into-requires : goal.pack_into-requires
pack_into-requires g c = assumption

pub pack-requires : goal.pack-requires
pack-requires g c = assumption

pub returns-in-Some-clause-packed : goal.returns-in-Some-clause-packed
returns-in-Some-clause-packed g c = (c.pack_into.ensures.packed ∙ ap batch_items c.take_all-whole.ensures.all, c.take_all-whole.ensures.left)

pub returns-in-Some-clause-left : goal.returns-in-Some-clause-left
returns-in-Some-clause-left g c = omega (arith, c.in-Some.ensures.len, c.pop.new.self.ok.0, c.args.rooms.now.ok.0)

pub returns-in-Ok-clause-packed : goal.returns-in-Ok-clause-packed
returns-in-Ok-clause-packed g c = (c.in-Ok.ensures.packed ∙ ap batch_items c.take_all-whole.ensures.all, c.take_all-whole.ensures.left)

pub returns-in-Ok-clause-left : goal.returns-in-Ok-clause-left
returns-in-Ok-clause-left g c = omega (arith, c.in_default.ensures.cases.0, c.args.rooms.now.ok.0)

pub returns-in-Err-clause-packed : goal.returns-in-Err-clause-packed
returns-in-Err-clause-packed g c = let e = c.in_default.ensures in
    (ap batch_items (c.in-Err.ensures.packed ∙ c.take_all-whole.ensures.all), none-popped c.args.rooms.now.items c.pop.new.self.items _ e.cases.0 e.items e.rest)

pub returns-in-Err-clause-left : goal.returns-in-Err-clause-left
returns-in-Err-clause-left g c = omega (arith, c.in_default.ensures.cases.0, c.args.rooms.now.ok.0)

pub array_drop-batch-requires : goal.array_drop-batch-requires
array_drop-batch-requires g c = let h : FitsInMemory (batch_row.the_row (param 0 g.row.J)) = assumption in
    in_places _ _ _ _ _ _ _ _ _ _ _ _ _ _ _ _ _ _ _ _ h
