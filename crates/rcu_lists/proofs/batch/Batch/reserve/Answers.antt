use Rattle.std.proofs.Common.{refl, arith}
use Rattle.std.specs.Mem.{FitsInMemory}
use Rattle.rcu_lists.proofs.Sizes.{in_first}
use Rattle.rcu_lists.specs.contracts.batch.Batch as row
use denote.Param.{param}
use Rattle.rcu_lists.proofs.batch.Batch.reserve.Goals as goal

pub capacity-requires : goal.capacity-requires
capacity-requires g c = let h : FitsInMemory (row.the_row (param 0 g.row.J)) = assumption in in_first _ _ _ _ _ _ _ h

pub len-requires : goal.len-requires
len-requires g c = let h : FitsInMemory (row.the_row (param 0 g.row.J)) = assumption in in_first _ _ _ _ _ _ _ h

pub overflow_sub-capacity : goal.overflow_sub-capacity
overflow_sub-capacity g c = omega (arith, c.len.ensures.fits, c.capacity.ensures.value)

pub returns-then-more-capacity-clause-items : goal.returns-then-more-capacity-clause-items
returns-then-more-capacity-clause-items g c = refl

pub returns-then-more-capacity-clause-found : goal.returns-then-more-capacity-clause-found
returns-then-more-capacity-clause-found g c = omega (arith, c.if-more-capacity.true, c.len.ensures.value, c.len.ensures.fits, c.capacity.ensures.value)

pub returns-then-more-capacity-clause-had : goal.returns-then-more-capacity-clause-had
returns-then-more-capacity-clause-had g c = λ _. refl

pub returns-then-more-capacity-clause-room : goal.returns-then-more-capacity-clause-room
returns-then-more-capacity-clause-room g c = λ _ room. room

pub grow-requires : goal.grow-requires
grow-requires g c = assumption

pub returns-clause-items : goal.returns-clause-items
returns-clause-items g c = c.grow.ensures.items

pub returns-clause-found : goal.returns-clause-found
returns-clause-found g c = c.grow.ensures.found

pub returns-clause-had : goal.returns-clause-had
returns-clause-had g c = λ room. absurd (omega (arith, room, c.if-more-capacity.false, c.len.ensures.value, c.capacity.ensures.value))

pub returns-clause-room : goal.returns-clause-room
returns-clause-room g c = c.grow.ensures.room

pub returns-clause-refused : goal.returns-clause-refused
returns-clause-refused g c = c.grow.ensures.refused
