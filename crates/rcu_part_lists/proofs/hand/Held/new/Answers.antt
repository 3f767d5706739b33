use Rattle.std.proofs.Common.{[], sym, ap, ◌∙◌, subst}
use Rattle.std.proofs.lemmas.List.Elements.{All-nil}
use Rattle.std.specs.List.{flat_map}
use Rattle.rcu_lanes.specs.Ends.{items_drawn}
use Rattle.rcu_lists.specs.Batches.{batch_items}
use Rattle.rcu_lists.specs.Parcels.{parcel_items}
use Rattle.rcu_part_lists.specs.Lanes.{drawn_calls}
use Rattle.rcu_part_lists.specs.Limits.{AreSafe, IsSafe}
use Rattle.rcu_part_lists.proofs.Pieces.{ends-of}
use Rattle.rcu_part_lists.proofs.Sizes.{held-batch}
use denote.Param.{param}
use Rattle.rcu_part_lists.proofs.hand.Held.new.Goals as goal

pub new-requires-2 : goal.new-requires-2
new-requires-2 g c = held-batch (param 0 g.row.J) assumption

pub invariant_of-result : goal.invariant_of-result
invariant_of-result g c = record {
  order = ends-of [] (drawn_calls c.new.result.front) (batch_items c.new-2.result) (ap (flat_map parcel_items) (ap items_drawn c.new.ensures ∙ c.requires) ∙ sym c.new-2.ensures.items);
  safe = subst AreSafe (sym c.new-2.ensures.items) (All-nil IsSafe);
}
