use Rattle.std.proofs.Common.{refl, ◌≡◌, ◌∙◌, [], ap, sym, None, Bool}
use Rattle.rcu_lists.specs.Batches.{batch_items}
use Rattle.rcu_lists.proofs.Fills.{marks, any-of}
use Rattle.rcu_lists.proofs.Sizes.{bypass-batch, in_places}
use denote.Param.{param}
use Rattle.rcu_lists.proofs.bypass.Bypass.refill.Goals as goal

pub invariant_of-self : goal.invariant_of-self
invariant_of-self g c = let m = marks c.is_empty.result (batch_items c.args.batch ≡ []) c.is_empty.ensures in record {
  unmarked = λ e. (m.0 (sym c.free_places.ensures.items ∙ e), refl);
  marked = λ p _. c.free_places.ensures.items ∙ m.1 p;
  roomy = c.free_places.ensures.inline;
}

pub returns-clause-pace : goal.returns-clause-pace
returns-clause-pace g c = let p = c.args.self.now.pace in ap (λ (b : Bool). record p { plain = b; lazy = None }) (any-of c.is_empty.result (batch_items c.args.batch) c.is_empty.ensures)

pub is_empty-requires : goal.is_empty-requires
is_empty-requires g c = bypass-batch (param 0 g.row.J) assumption

pub array_drop-self-requires : goal.array_drop-self-requires
array_drop-self-requires g c = in_places _ _ _ _ _ _ _ _ _ _ _ _ _ _ _ _ _ _ _ _ (bypass-batch (param 0 g.row.J) assumption)

pub free_places-requires : goal.free_places-requires
free_places-requires g c = bypass-batch (param 0 g.row.J) assumption

pub returns-clause-items : goal.returns-clause-items
returns-clause-items g c = c.free_places.ensures.items

pub returns-clause-room : goal.returns-clause-room
returns-clause-room g c = c.free_places.ensures.room
