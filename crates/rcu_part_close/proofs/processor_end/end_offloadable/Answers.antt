use Rattle.std.proofs.Common.{◌≡◌, ◌+◌, ◌≤◌, List, ◌++◌, length, ap, ◌∙◌, arith}
use Rattle.std.specs.List.{flat_map}
use denote.Param.{param}
use Rattle.rcu_part_lists.proofs.Sizes.{held-batch}
use Rattle.rcu_lists.proofs.Sizes.{in_places}
use Rattle.rcu_part_lists.specs.ProcessorLists.{holding, held_in, put_by}
use Rattle.rcu_part_lists.specs.Helds.{drawn_by, held_by, taken_by}
use Rattle.rcu_jobs.specs.declared.callback.Record.{Record}
use Rattle.rcu_lanes.specs.Ends.{items_drawn, items_left, items_put}
use Rattle.rcu_lists.specs.Batches.{batch_items}
use Rattle.rcu_lists.specs.Chains.{chain_items}
use Rattle.rcu_lists.specs.Parcels.{parcel_items}
use Rattle.rcu_numbers.specs.Numbers.{snap_of}
use Rattle.rcu_part_order.specs.Recorded.{left_in, ran_of}
use Rattle.rcu_part_order.specs.Records.{by_number}
use Rattle.rcu_part_order.proofs.Merging.{all_by_number, all_in_order, of_both}
use Rattle.rcu_part_close.proofs.Endings.{all_fit, came_back, ends_of_one, first_fits, rest_fits, takes_then, passage, offloadable_ends, taken_first}
use Rattle.rcu_part_close.proofs.processor_end.end_offloadable.Goals as goal

pub into_parts-done_front-requires : goal.into_parts-done_front-requires
into_parts-done_front-requires g c = (assumption, held-batch (param 0 g.row.J) assumption)

pub into_parts-front-requires : goal.into_parts-front-requires
into_parts-front-requires g c = (assumption, held-batch (param 0 g.row.J) assumption)

pub take_drawn-requires : goal.take_drawn-requires
take_drawn-requires g c =
    let i = c.into_parts-rear in
    let j = c.into_parts-front in
    let k = c.into_parts-done_front in
    let p = passage (items_put c.args.processor_lists.outlet.rear) (items_put i.result.0) (items_drawn c.args.member.inlet.front) (items_drawn j.result.0) (items_left c.rest-lane.result)
    (items_put c.args.member.outlet.rear) (items_put j.result.1) (items_drawn c.args.held.inlet.front) (items_drawn k.result.0) (items_left c.rest-done_lane.result)
    (taken_by c.args.held) (batch_items k.result.1) (held_by c.args.held) (batch_items j.result.4) (chain_items j.result.2) (batch_items j.result.3)
    (ap items_put i.ensures.rear) (ap items_drawn j.ensures.ends.0) c.rest-lane.ensures (ap items_put j.ensures.ends.1) (ap items_drawn k.ensures.front) c.rest-done_lane.ensures j.ensures.order k.ensures.order k.ensures.batch in
    let first = batch_items k.result.1 ++ (flat_map parcel_items (items_left c.rest-done_lane.result) ++ (batch_items j.result.4 ++ chain_items j.result.2)) in
    let second = batch_items j.result.3 ++ flat_map parcel_items (items_left c.rest-lane.result) in
    let last = batch_items i.result.2 ++ i.result.1.items in
    let same : last ≡ held_in (holding c.args.processor_lists) = ap (λ l. l ++ i.result.1.items) i.ensures.bypass ∙ ap (λ l. (holding c.args.processor_lists).outgoing.bypass ++ l) i.ensures.own in
    let r = c.requires.room in
    let f = all_fit (put_by (holding c.args.processor_lists)) (taken_by c.args.held) first second last (held_in (holding c.args.processor_lists)) c.args.room.back r.0 r.1.no_job p.0 same r.2 r.1.for_jobs in
    (held-batch (param 0 g.row.J) assumption, first_fits _ _ first (second ++ last) f)

pub take_undrawn-requires : goal.take_undrawn-requires
take_undrawn-requires g c =
    let i = c.into_parts-rear in
    let j = c.into_parts-front in
    let k = c.into_parts-done_front in
    let p = passage (items_put c.args.processor_lists.outlet.rear) (items_put i.result.0) (items_drawn c.args.member.inlet.front) (items_drawn j.result.0) (items_left c.rest-lane.result)
    (items_put c.args.member.outlet.rear) (items_put j.result.1) (items_drawn c.args.held.inlet.front) (items_drawn k.result.0) (items_left c.rest-done_lane.result)
    (taken_by c.args.held) (batch_items k.result.1) (held_by c.args.held) (batch_items j.result.4) (chain_items j.result.2) (batch_items j.result.3)
    (ap items_put i.ensures.rear) (ap items_drawn j.ensures.ends.0) c.rest-lane.ensures (ap items_put j.ensures.ends.1) (ap items_drawn k.ensures.front) c.rest-done_lane.ensures j.ensures.order k.ensures.order k.ensures.batch in
    let first = batch_items k.result.1 ++ (flat_map parcel_items (items_left c.rest-done_lane.result) ++ (batch_items j.result.4 ++ chain_items j.result.2)) in
    let second = batch_items j.result.3 ++ flat_map parcel_items (items_left c.rest-lane.result) in
    let last = batch_items i.result.2 ++ i.result.1.items in
    let same : last ≡ held_in (holding c.args.processor_lists) = ap (λ l. l ++ i.result.1.items) i.ensures.bypass ∙ ap (λ l. (holding c.args.processor_lists).outgoing.bypass ++ l) i.ensures.own in
    let r = c.requires.room in
    let f = all_fit (put_by (holding c.args.processor_lists)) (taken_by c.args.held) first second last (held_in (holding c.args.processor_lists)) c.args.room.back r.0 r.1.no_job p.0 same r.2 r.1.for_jobs in
    (held-batch (param 0 g.row.J) assumption, first_fits _ _ second last (rest_fits first (second ++ last) _ _ c.take_drawn.ensures f))

pub take_lists-requires : goal.take_lists-requires
take_lists-requires g c =
    let i = c.into_parts-rear in
    let j = c.into_parts-front in
    let k = c.into_parts-done_front in
    let p = passage (items_put c.args.processor_lists.outlet.rear) (items_put i.result.0) (items_drawn c.args.member.inlet.front) (items_drawn j.result.0) (items_left c.rest-lane.result)
    (items_put c.args.member.outlet.rear) (items_put j.result.1) (items_drawn c.args.held.inlet.front) (items_drawn k.result.0) (items_left c.rest-done_lane.result)
    (taken_by c.args.held) (batch_items k.result.1) (held_by c.args.held) (batch_items j.result.4) (chain_items j.result.2) (batch_items j.result.3)
    (ap items_put i.ensures.rear) (ap items_drawn j.ensures.ends.0) c.rest-lane.ensures (ap items_put j.ensures.ends.1) (ap items_drawn k.ensures.front) c.rest-done_lane.ensures j.ensures.order k.ensures.order k.ensures.batch in
    let first = batch_items k.result.1 ++ (flat_map parcel_items (items_left c.rest-done_lane.result) ++ (batch_items j.result.4 ++ chain_items j.result.2)) in
    let second = batch_items j.result.3 ++ flat_map parcel_items (items_left c.rest-lane.result) in
    let last = batch_items i.result.2 ++ i.result.1.items in
    let same : last ≡ held_in (holding c.args.processor_lists) = ap (λ l. l ++ i.result.1.items) i.ensures.bypass ∙ ap (λ l. (holding c.args.processor_lists).outgoing.bypass ++ l) i.ensures.own in
    let r = c.requires.room in
    let f = all_fit (put_by (holding c.args.processor_lists)) (taken_by c.args.held) first second last (held_in (holding c.args.processor_lists)) c.args.room.back r.0 r.1.no_job p.0 same r.2 r.1.for_jobs in
    (held-batch (param 0 g.row.J) assumption, rest_fits second last _ _ c.take_undrawn.ensures (rest_fits first (second ++ last) _ _ c.take_drawn.ensures f))

pub returns-clause-passed : goal.returns-clause-passed
returns-clause-passed g c =
    let i = c.into_parts-rear in
    let j = c.into_parts-front in
    let k = c.into_parts-done_front in
    let p = passage (items_put c.args.processor_lists.outlet.rear) (items_put i.result.0) (items_drawn c.args.member.inlet.front) (items_drawn j.result.0) (items_left c.rest-lane.result)
    (items_put c.args.member.outlet.rear) (items_put j.result.1) (items_drawn c.args.held.inlet.front) (items_drawn k.result.0) (items_left c.rest-done_lane.result)
    (taken_by c.args.held) (batch_items k.result.1) (held_by c.args.held) (batch_items j.result.4) (chain_items j.result.2) (batch_items j.result.3)
    (ap items_put i.ensures.rear) (ap items_drawn j.ensures.ends.0) c.rest-lane.ensures (ap items_put j.ensures.ends.1) (ap items_drawn k.ensures.front) c.rest-done_lane.ensures j.ensures.order k.ensures.order k.ensures.batch in
    taken_first (put_by (holding c.args.processor_lists)) (taken_by c.args.held) _ p.0

pub returns-clause-back : goal.returns-clause-back
returns-clause-back g c =
    let i = c.into_parts-rear in
    let j = c.into_parts-front in
    let k = c.into_parts-done_front in
    let p = passage (items_put c.args.processor_lists.outlet.rear) (items_put i.result.0) (items_drawn c.args.member.inlet.front) (items_drawn j.result.0) (items_left c.rest-lane.result)
    (items_put c.args.member.outlet.rear) (items_put j.result.1) (items_drawn c.args.held.inlet.front) (items_drawn k.result.0) (items_left c.rest-done_lane.result)
    (taken_by c.args.held) (batch_items k.result.1) (held_by c.args.held) (batch_items j.result.4) (chain_items j.result.2) (batch_items j.result.3)
    (ap items_put i.ensures.rear) (ap items_drawn j.ensures.ends.0) c.rest-lane.ensures (ap items_put j.ensures.ends.1) (ap items_drawn k.ensures.front) c.rest-done_lane.ensures j.ensures.order k.ensures.order k.ensures.batch in
    let first = batch_items k.result.1 ++ (flat_map parcel_items (items_left c.rest-done_lane.result) ++ (batch_items j.result.4 ++ chain_items j.result.2)) in
    let second = batch_items j.result.3 ++ flat_map parcel_items (items_left c.rest-lane.result) in
    let last = batch_items i.result.2 ++ i.result.1.items in
    let same : last ≡ held_in (holding c.args.processor_lists) = ap (λ l. l ++ i.result.1.items) i.ensures.bypass ∙ ap (λ l. (holding c.args.processor_lists).outgoing.bypass ++ l) i.ensures.own in
    came_back (put_by (holding c.args.processor_lists)) (taken_by c.args.held) first second last (held_in (holding c.args.processor_lists)) c.args.room.back c.take_lists.new.jobs c.requires.room.1.no_job p.0 same
    (takes_then first (second ++ last) _ _ _ c.take_drawn.ensures (takes_then second last _ _ _ c.take_undrawn.ensures c.take_lists.ensures))

pub returns-clause-ends : goal.returns-clause-ends
returns-clause-ends g c =
    let i = c.into_parts-rear in
    let j = c.into_parts-front in
    let k = c.into_parts-done_front in
    let p = passage (items_put c.args.processor_lists.outlet.rear) (items_put i.result.0) (items_drawn c.args.member.inlet.front) (items_drawn j.result.0) (items_left c.rest-lane.result)
    (items_put c.args.member.outlet.rear) (items_put j.result.1) (items_drawn c.args.held.inlet.front) (items_drawn k.result.0) (items_left c.rest-done_lane.result)
    (taken_by c.args.held) (batch_items k.result.1) (held_by c.args.held) (batch_items j.result.4) (chain_items j.result.2) (batch_items j.result.3)
    (ap items_put i.ensures.rear) (ap items_drawn j.ensures.ends.0) c.rest-lane.ensures (ap items_put j.ensures.ends.1) (ap items_drawn k.ensures.front) c.rest-done_lane.ensures j.ensures.order k.ensures.order k.ensures.batch in
    let first = batch_items k.result.1 ++ (flat_map parcel_items (items_left c.rest-done_lane.result) ++ (batch_items j.result.4 ++ chain_items j.result.2)) in
    let second = batch_items j.result.3 ++ flat_map parcel_items (items_left c.rest-lane.result) in
    let last = batch_items i.result.2 ++ i.result.1.items in
    let same : last ≡ held_in (holding c.args.processor_lists) = ap (λ l. l ++ i.result.1.items) i.ensures.bypass ∙ ap (λ l. (holding c.args.processor_lists).outgoing.bypass ++ l) i.ensures.own in
    let own = ran_of c.args.own in
    let hands = ran_of c.args.hands in
    offloadable_ends g.J.Job.key_of g.J.Job.gives own hands (by_number own hands) (holding c.args.processor_lists) (taken_by c.args.held) (drawn_by c.args.held) c.take_lists.new.jobs.items
    (taken_first (put_by (holding c.args.processor_lists)) (taken_by c.args.held) _ p.0) (taken_first (put_by (holding c.args.processor_lists)) (drawn_by c.args.held) _ p.1)
    (came_back (put_by (holding c.args.processor_lists)) (taken_by c.args.held) first second last (held_in (holding c.args.processor_lists)) c.args.room.back c.take_lists.new.jobs c.requires.room.1.no_job p.0 same
    (takes_then first (second ++ last) _ _ _ c.take_drawn.ensures (takes_then second last _ _ _ c.take_undrawn.ensures c.take_lists.ensures)))
    (λ accepted back held r. all_in_order (length own + length hands) accepted own hands back held r)
    (all_by_number (λ (r : Record g.row.J-Receipt.Denot). g.J.Job.gives r.key r.receipt) own hands)
    (all_by_number (λ (r : Record g.row.J-Receipt.Denot). snap_of r.stamp ≤ r.ready) own hands)
    (λ x. all_by_number (λ (r : Record g.row.J-Receipt.Denot). r.ready ≤ x) own hands)
    (of_both own hands)

pub returns-clause-kept : goal.returns-clause-kept
returns-clause-kept g c =
    c.merge_records-ran.ensures.merged ∙ (ap (λ (l : List (Record g.row.J-Receipt.Denot)). by_number l c.from-2.result.items) (c.from.ensures.0 ∙ ap (λ v. v.items) c.into_left.ensures)
    ∙ ap (by_number (left_in c.args.own)) (c.from-2.ensures.0 ∙ ap (λ v. v.items) c.into_left-2.ensures))

pub into_parts-rear-requires : goal.into_parts-rear-requires
into_parts-rear-requires g c = (assumption, held-batch (param 0 g.row.J) assumption)

pub array_drop-out-requires : goal.array_drop-out-requires
array_drop-out-requires g c = in_places _ _ _ _ _ _ _ _ _ _ _ _ _ _ _ _ _ _ _ _ (held-batch (param 0 g.row.J) assumption)

pub array_drop-drawn-requires : goal.array_drop-drawn-requires
array_drop-drawn-requires g c = in_places _ _ _ _ _ _ _ _ _ _ _ _ _ _ _ _ _ _ _ _ (held-batch (param 0 g.row.J) assumption)

pub array_drop-bypass-requires : goal.array_drop-bypass-requires
array_drop-bypass-requires g c = in_places _ _ _ _ _ _ _ _ _ _ _ _ _ _ _ _ _ _ _ _ (held-batch (param 0 g.row.J) assumption)

pub array_drop-batch-requires : goal.array_drop-batch-requires
array_drop-batch-requires g c = in_places _ _ _ _ _ _ _ _ _ _ _ _ _ _ _ _ _ _ _ _ (held-batch (param 0 g.row.J) assumption)

pub rest-done_lane-requires : goal.rest-done_lane-requires
rest-done_lane-requires g c = ends_of_one _ _ _ _ c.into_parts-done_front.ensures.front c.into_parts-front.ensures.ends.1 c.requires.done_lane

pub rest-lane-requires : goal.rest-lane-requires
rest-lane-requires g c = ends_of_one _ _ _ _ c.into_parts-front.ensures.ends.0 c.into_parts-rear.ensures.rear c.requires.lane

pub merge_records-ran-requires-clause-none : goal.merge_records-ran-requires-clause-none
merge_records-ran-requires-clause-none g c = c.requires.room.1.no_record

pub merge_records-ran-requires-clause-room : goal.merge_records-ran-requires-clause-room
merge_records-ran-requires-clause-room g c = omega (arith, ap length (c.from.ensures.0 ∙ ap (λ v. v.items) c.into_left.ensures), ap length (c.from-2.ensures.0 ∙ ap (λ v. v.items) c.into_left-2.ensures), c.requires.room.1.for_records)
