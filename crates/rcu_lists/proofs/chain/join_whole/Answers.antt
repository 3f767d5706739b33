use Rattle.std.proofs.Common.{◌++◌, ◌∙◌, ap, refl, sym, arith}
use Rattle.std.proofs.lemmas.Bool.{false≢true}
use Rattle.std.specs.Mem.{FitsInMemory}
use Rattle.rcu_lists.specs.Batches.{batch_items}
use Rattle.rcu_lists.specs.Blocks.{blocks_items}
use Rattle.rcu_lists.proofs.Blocks.{blocks-more}
use Rattle.rcu_lists.proofs.Sizes.{in_places}
use Rattle.rcu_lists.specs.contracts.batch.Batch as row
use denote.Param.{param}
use Rattle.rcu_lists.proofs.chain.join_whole.Goals as goal

pub returns-in-Err-clause-joined : goal.returns-in-Err-clause-joined
returns-in-Err-clause-joined g c = λ e. absurd (false≢true e)

pub returns-in-Err-clause-refused : goal.returns-in-Err-clause-refused
returns-in-Err-clause-refused g c = λ _. (ap blocks_items c.reserve.ensures.items, refl)

pub take_all-requires : goal.take_all-requires
take_all-requires g c = assumption

pub into_places-requires : goal.into_places-requires
into_places-requires g c = assumption

pub push_back_reserved-requires : goal.push_back_reserved-requires
push_back_reserved-requires g c = let room = c.in-Ok.ensures.ok in omega (arith, room)

pub array_drop-batch-requires : goal.array_drop-batch-requires
array_drop-batch-requires g c = let h : FitsInMemory (row.the_row (param 0 g.row.J)) = assumption in in_places _ _ _ _ _ _ _ _ _ _ _ _ _ _ _ _ _ _ _ _ h

pub returns-in-Ok-into_places-clause-joined : goal.returns-in-Ok-into_places-clause-joined
returns-in-Ok-into_places-clause-joined g c = λ _. let old = c.reserve.new.self.items in let all = c.in-Ok-into_places.ensures.packed ∙ ap batch_items c.take_all.ensures.all in (
  ap blocks_items c.push_back_reserved.ensures.items ∙ blocks-more old c.in-Ok-into_places.block ∙ ap (λ l. blocks_items old ++ l) all
      ∙ ap (λ bs. blocks_items bs ++ batch_items c.args.batch.now) c.reserve.ensures.items,
  c.take_all.ensures.left,
)

pub returns-in-Ok-into_places-clause-refused : goal.returns-in-Ok-into_places-clause-refused
returns-in-Ok-into_places-clause-refused g c = λ e. absurd (false≢true (sym e))

pub returns-in-Err-into_places-clause-joined : goal.returns-in-Err-into_places-clause-joined
returns-in-Err-into_places-clause-joined g c = λ e. absurd (false≢true e)

pub returns-in-Err-into_places-clause-refused : goal.returns-in-Err-into_places-clause-refused
returns-in-Err-into_places-clause-refused g c = λ _. (ap blocks_items c.reserve.ensures.items, ap batch_items c.in-Err-into_places.ensures.packed ∙ ap batch_items c.take_all.ensures.all)
