use Rattle.std.proofs.Common.{◌∙◌, ap}
use Rattle.std.specs.Mem.{FitsInMemory}
use Rattle.rcu_lists.specs.Batches.{batch_items}
use Rattle.rcu_lists.proofs.Sizes.{in_first}
use Rattle.rcu_lists.specs.contracts.batch.Batch as row
use denote.Param.{param}
use Rattle.rcu_lists.proofs.batch.Batch.take_all.Goals as goal

pub returns-clause-room : goal.returns-clause-room
returns-clause-room g c = rw c.replace.ensures.after c.new-empty.ensures.room

pub allocator-requires : goal.allocator-requires
allocator-requires g c = let h : FitsInMemory (row.the_row (param 0 g.row.J)) = assumption in in_first _ _ _ _ _ _ _ h

pub new-empty-requires : goal.new-empty-requires
new-empty-requires g c = assumption

pub len-requires : goal.len-requires
len-requires g c = let h : FitsInMemory (row.the_row (param 0 g.row.J)) = assumption in in_first _ _ _ _ _ _ _ h

pub returns-clause-all : goal.returns-clause-all
returns-clause-all g c = c.replace.ensures.value

pub returns-clause-left : goal.returns-clause-left
returns-clause-left g c = ap batch_items c.replace.ensures.after ∙ c.new-empty.ensures.items
