use Rattle.std.proofs.lemmas.Bool.{false≢true}
use Rattle.std.proofs.Common.{refl, ◌∙◌, arith}
use Rattle.rcu_lists.proofs.Fills.{single-taken, none-after}
use Rattle.rcu_lists.proofs.batch.Batch.take_single.Goals as goal

pub len-requires : goal.len-requires
len-requires g c = assumption

pub returns-then-len-ne1-clause-taken : goal.returns-then-len-ne1-clause-taken
returns-then-len-ne1-clause-taken g c = (λ e. c.if-len-ne1.true (c.len.ensures ∙ e), refl)

pub returns-then-len-ne1-clause-room : goal.returns-then-len-ne1-clause-room
returns-then-len-ne1-clause-room g c = λ h. absurd (false≢true h)

pub take_first-single-requires : goal.take_first-single-requires
take_first-single-requires g c = assumption

pub free_places-requires : goal.free_places-requires
free_places-requires g c = assumption

pub returns-clause-taken : goal.returns-clause-taken
returns-clause-taken g c = single-taken _ c.take_first-single.result _ _ _ (omega arith) c.take_first-single.ensures c.free_places.ensures.items

pub returns-clause-room : goal.returns-clause-room
returns-clause-room g c = λ _. c.free_places.ensures.inline (c.free_places.ensures.items ∙ none-after c.take_first-single.result _ _ (omega arith) c.take_first-single.ensures)
