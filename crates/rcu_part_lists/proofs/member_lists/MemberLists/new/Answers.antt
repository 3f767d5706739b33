use Rattle.std.proofs.Common.{sym, ap, ◌∙◌, length, subst}
use Rattle.std.proofs.lemmas.List.Elements.{All-nil}
use Rattle.std.specs.List.{flat_map}
use Rattle.rcu_lanes.specs.Ends.{items_drawn, items_put}
use Rattle.rcu_lists.specs.Batches.{batch_items}
use Rattle.rcu_lists.specs.Parcels.{parcel_items}
use Rattle.rcu_lists.specs.BlockSegments.{block_labelled, block_advanced_by}
use Rattle.rcu_lists.proofs.Outcomes.{if_ok_never}
use Rattle.rcu_part_lists.specs.Lanes.{drawn_calls, put_calls}
use Rattle.rcu_part_lists.specs.Limits.{AreSafe, IsSafe}
use Rattle.rcu_part_lists.proofs.Holdings.{all-of-none, aimed-none}
use Rattle.rcu_part_lists.proofs.Relays.{nothing-few, nothing-here, nothing-lost}
use denote.Param.{param}
use Rattle.rcu_part_lists.proofs.Sizes.{member-batch}
use Rattle.rcu_part_lists.proofs.member_lists.MemberLists.new.Goals as goal

pub returns-in_err-new-clause-ends : goal.returns-in_err-new-clause-ends
returns-in_err-new-clause-ends g c = if_ok_never c.from_residual.result _ c.from_residual.ensures

pub returns-in_err-new-clause-empty : goal.returns-in_err-new-clause-empty
returns-in_err-new-clause-empty g c = if_ok_never c.from_residual.result _ c.from_residual.ensures

pub new-requires-4 : goal.new-requires-4
new-requires-4 g c = member-batch (param 0 g.row.J) assumption

pub new-requires-5 : goal.new-requires-5
new-requires-5 g c = member-batch (param 0 g.row.J) assumption

pub invariant_of-result : goal.invariant_of-result
invariant_of-result g c =
    let drawn = ap (flat_map parcel_items) (ap items_drawn c.new.ensures ∙ c.requires.none_drawn) in
    let put = ap (flat_map parcel_items) (ap items_put c.in_ok-new.ensures.rear ∙ c.requires.none_put) in
    record {
      order = nothing-lost (drawn_calls c.new.result.front) (put_calls c.in_ok-new.field-0.rear) (batch_items c.new-5.result) (batch_items c.new-4.result) (block_labelled c.new-3.result) drawn put c.new-5.ensures.items c.new-4.ensures.items c.new-3.ensures.list;
      drawn_safe = subst AreSafe (sym c.new-4.ensures.items) (All-nil IsSafe);
      list_safe = all-of-none (block_labelled c.new-3.result) c.new-3.ensures.list;
      out_safe = subst AreSafe (sym c.new-5.ensures.items) (All-nil IsSafe);
      few = nothing-few (drawn_calls c.new.result.front) drawn;
      aimed = aimed-none (block_advanced_by c.new-3.result) (block_labelled c.new-3.result) c.new-3.ensures.list;
    }

pub returns-clause-ends : goal.returns-clause-ends
returns-clause-ends g c = (c.new.ensures, c.in_ok-new.ensures.rear)

pub returns-clause-empty : goal.returns-clause-empty
returns-clause-empty g c =
    let drawn = ap items_drawn c.new.ensures ∙ c.requires.none_drawn in
    let put = ap items_put c.in_ok-new.ensures.rear ∙ c.requires.none_put in
    nothing-here (ap (flat_map parcel_items) drawn) (ap length drawn) c.new-4.ensures.items c.new-3.ensures.list c.new-3.ensures.advanced c.new-5.ensures.items (ap (flat_map parcel_items) put) (ap length put)
