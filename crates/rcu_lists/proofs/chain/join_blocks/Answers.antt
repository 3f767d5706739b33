use Rattle.std.proofs.Common.{refl, sym}
use Rattle.std.specs.Mem.{FitsInMemory}
use Rattle.std.proofs.lemmas.Bool.{false≢true}
use Rattle.std.proofs.lemmas.List.{append-nil}
use Rattle.rcu_lists.specs.Blocks.{blocks_items}
use Rattle.rcu_lists.proofs.Sizes.{in_first}
use Rattle.rcu_lists.specs.contracts.batch.Batch as row
use denote.Param.{param}
use Rattle.rcu_lists.proofs.chain.join_blocks.Goals as goal

pub is_empty-requires : goal.is_empty-requires
is_empty-requires g c = assumption

pub returns-then-is_empty-clause-joined : goal.returns-then-is_empty-clause-joined
returns-then-is_empty-clause-joined g c = λ _. let none = c.if-is_empty.ensures.0 refl in (rw none (sym (append-nil (blocks_items c.args.blocks.now.items))), none)

pub returns-then-is_empty-clause-refused : goal.returns-then-is_empty-clause-refused
returns-then-is_empty-clause-refused g c = λ e. absurd (false≢true (sym e))

pub spilled-requires : goal.spilled-requires
spilled-requires g c = let h : FitsInMemory (row.the_row (param 0 g.row.J)) = assumption in in_first _ _ _ _ _ _ _ h

pub join_whole-requires : goal.join_whole-requires
join_whole-requires g c = assumption

pub join_few-requires : goal.join_few-requires
join_few-requires g c = assumption

pub returns-then-spilled-clause-joined : goal.returns-then-spilled-clause-joined
returns-then-spilled-clause-joined g c = c.join_whole.ensures.joined

pub returns-then-spilled-clause-refused : goal.returns-then-spilled-clause-refused
returns-then-spilled-clause-refused g c = c.join_whole.ensures.refused

pub returns-else-spilled-clause-joined : goal.returns-else-spilled-clause-joined
returns-else-spilled-clause-joined g c = c.join_few.ensures.joined

pub returns-else-spilled-clause-refused : goal.returns-else-spilled-clause-refused
returns-else-spilled-clause-refused g c = c.join_few.ensures.refused
