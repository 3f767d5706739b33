use Rattle.std.proofs.Common.{ap, sym, ◌∙◌, refl, length}
use Rattle.std.specs.List.{flat_map}
use Rattle.rcu_lists.specs.Batches.{batch_items}
use Rattle.rcu_lists.specs.Labels.{callbacks_of}
use Rattle.rcu_lists.specs.Parcels.{parcel_items}
use Rattle.rcu_lists.specs.BlockSegments.{block_labelled}
use Rattle.rcu_part_lists.specs.Lanes.{put_calls, drawn_calls}
use Rattle.rcu_part_lists.specs.MemberLists.{relay}
use Rattle.rcu_part_lists.proofs.Fetches.{fetched-drawn, fetched-few, fetched-safe, none-tested, some-tested}
use Rattle.rcu_part_lists.proofs.Relays.{drawn-waits}
use denote.Param.{param}
use Rattle.rcu_part_lists.proofs.Sizes.{member-batch}
use Rattle.rcu_part_lists.proofs.member_lists.MemberLists.draw_one.Goals as goal

pub invariant_of-self : goal.invariant_of-self
invariant_of-self g c =
    let s = c.args.self.now in
    let d = c.draw_into.ensures in
    let r = c.draw_into.result in
    let batch = batch_items c.draw_into.new.batch in
    let old = drawn_calls s.inlet.front in
    let new = drawn_calls c.draw_into.new.self.front in
    record {
      order = fetched-drawn r old new batch (λ e. (d.drawn e).0) (λ n. ap (flat_map parcel_items) (d.none n).0) (λ n. (d.none n).1)
          ∙ drawn-waits old (put_calls s.outlet.rear) (batch_items s.out) (callbacks_of (block_labelled s.list)) batch (batch_items s.drawn) c.requires s.order;
      drawn_safe = fetched-safe r batch (λ e. (d.allowed e).0) (λ n. (d.none n).1);
      list_safe = s.list_safe;
      out_safe = s.out_safe;
      few = fetched-few r old new (λ e. (d.allowed e).1) (λ n. ap (flat_map parcel_items) (d.none n).0) s.few;
      aimed = s.aimed;
    }

pub returns-clause-draws : goal.returns-clause-draws
returns-clause-draws g c = λ e. let d = c.draw_into.ensures.drawn (none-tested c.draw_into.result c.is_none.result c.is_none.ensures e) in record { received = d.0; one = d.1; others = refl }

pub returns-clause-none : goal.returns-clause-none
returns-clause-none g c = λ e.
    let r = relay c.args.self.now in
    let n = c.draw_into.ensures.none (some-tested c.draw_into.result c.is_none.result c.is_none.ensures e) in
    ap (λ items. record r { received = flat_map parcel_items items; draws = length items; drawn = batch_items c.draw_into.new.batch }) n.0 ∙ ap (λ l. record r { drawn = l }) (n.1 ∙ sym c.requires)

pub draw_into-requires : goal.draw_into-requires
draw_into-requires g c = (member-batch (param 0 g.row.J) assumption, c.requires)

pub returns-clause-lanes : goal.returns-clause-lanes
returns-clause-lanes g c = (c.draw_into.ensures.lane, refl)

pub returns-clause-advanced : goal.returns-clause-advanced
returns-clause-advanced g c = refl
