use Rattle.std.proofs.Common.{refl}
use Rattle.std.proofs.lemmas.Bool.{false≢true}
use Rattle.std.specs.Mem.{FitsInMemory}
use Rattle.rcu_lists.proofs.Outcomes.{if_ok_never, on_err_said}
use Rattle.rcu_lists.proofs.Sizes.{in_places}
use Rattle.rcu_lists.specs.contracts.batch.Batch as row
use denote.Param.{param}
use Rattle.rcu_lists.proofs.segments.Segments.take_batch.Goals as goal

pub returns-in_err-fill_batch-clause-inline : goal.returns-in_err-fill_batch-clause-inline
returns-in_err-fill_batch-clause-inline g c = λ few. absurd (false≢true (c.in_err-fill_batch.ensures.inline few))

pub new-batch-requires : goal.new-batch-requires
new-batch-requires g c = assumption

pub fill_batch-requires : goal.fill_batch-requires
fill_batch-requires g c = (assumption, c.new-batch.ensures.items)

pub array_drop-batch-requires : goal.array_drop-batch-requires
array_drop-batch-requires g c = let h : FitsInMemory (row.the_row (param 0 g.row.J)) = assumption in in_places _ _ _ _ _ _ _ _ _ _ _ _ _ _ _ _ _ _ _ _ h

pub returns-in_err-fill_batch-clause-taken : goal.returns-in_err-fill_batch-clause-taken
returns-in_err-fill_batch-clause-taken g c = if_ok_never c.from_residual.result _ c.from_residual.ensures

pub returns-in_err-fill_batch-clause-number : goal.returns-in_err-fill_batch-clause-number
returns-in_err-fill_batch-clause-number g c = if_ok_never c.from_residual.result _ c.from_residual.ensures

pub returns-in_err-fill_batch-clause-graced : goal.returns-in_err-fill_batch-clause-graced
returns-in_err-fill_batch-clause-graced g c = if_ok_never c.from_residual.result _ c.from_residual.ensures

pub returns-in_err-fill_batch-clause-advanced : goal.returns-in_err-fill_batch-clause-advanced
returns-in_err-fill_batch-clause-advanced g c = c.in_err-fill_batch.ensures.advanced

pub returns-in_err-fill_batch-clause-room : goal.returns-in_err-fill_batch-clause-room
returns-in_err-fill_batch-clause-room g c = if_ok_never c.from_residual.result _ c.from_residual.ensures

pub returns-in_err-fill_batch-clause-refused : goal.returns-in_err-fill_batch-clause-refused
returns-in_err-fill_batch-clause-refused g c = on_err_said c.from_residual.result _ c.in_err-fill_batch.ensures.refused.0

pub returns-clause-taken : goal.returns-clause-taken
returns-clause-taken g c = c.in_ok-fill_batch.ensures.taken

pub returns-clause-number : goal.returns-clause-number
returns-clause-number g c = c.in_ok-fill_batch.ensures.number

pub returns-clause-graced : goal.returns-clause-graced
returns-clause-graced g c = c.in_ok-fill_batch.ensures.graced

pub returns-clause-advanced : goal.returns-clause-advanced
returns-clause-advanced g c = c.in_ok-fill_batch.ensures.advanced

pub returns-clause-room : goal.returns-clause-room
returns-clause-room g c = c.in_ok-fill_batch.ensures.room

pub returns-clause-inline : goal.returns-clause-inline
returns-clause-inline g c = λ _. refl

pub returns-clause-refused : goal.returns-clause-refused
returns-clause-refused g c = tt
