use Rattle.std.proofs.Common.{◌≡◌, ◌++◌, ◌+◌, inl, inr, ap, sym, ◌∙◌, refl, length, rules}
use Rattle.std.specs.List.{flat_map}
use Rattle.rcu_lanes.specs.Ends.{items_put}
use Rattle.rcu_lists.specs.Batches.{batch_items}
use Rattle.rcu_lists.specs.Labels.{callbacks_of}
use Rattle.rcu_lists.specs.Parcels.{parcel_items}
use Rattle.rcu_lists.specs.BlockSegments.{block_labelled}
use Rattle.rcu_part_lists.specs.Lanes.{put_calls, drawn_calls}
use Rattle.rcu_part_lists.specs.MemberLists.{relay}
use Rattle.rcu_part_lists.proofs.Fetches.{put-order, put-safe}
use Rattle.rcu_part_lists.proofs.Relays.{out-few}
use Rattle.rcu_part_lists.proofs.Releases.{full}
use Rattle.rcu_part_lists.proofs.Sizes.{member-batch}
use denote.Param.{param}
use Rattle.rcu_part_lists.proofs.member_lists.MemberLists.hand_on.Goals as goal

pub returns-then-is_empty-clause-hands : goal.returns-then-is_empty-clause-hands
returns-then-is_empty-clause-hands g c = inr (refl, refl, inl (c.is_empty.ensures.0 c.if-is_empty.true))

pub put_from-requires : goal.put_from-requires
put_from-requires g c =
    let s = c.args.self.now in
    let rest = callbacks_of (block_labelled s.list) ++ batch_items s.drawn in
    (member-batch (param 0 g.row.J) assumption, (s.out_safe, out-few (drawn_calls s.inlet.front) (put_calls s.outlet.rear) (batch_items s.out) rest s.order s.few))

pub invariant_of-self : goal.invariant_of-self
invariant_of-self g c =
    let s = c.args.self.now in
    let p = c.put_from.ensures.puts in
    let rest = callbacks_of (block_labelled s.list) ++ batch_items s.drawn in
    let left = batch_items c.put_from.new.batch in
    record {
      order = put-order c.put_from.result (drawn_calls s.inlet.front) (put_calls s.outlet.rear) (batch_items s.out) rest (put_calls c.put_from.new.self.rear) left
          (λ e. (p.put e).0) p.left (λ e. ap (flat_map parcel_items) (p.stays e).0) (λ e. (p.stays e).1) s.order;
      drawn_safe = s.drawn_safe;
      list_safe = s.list_safe;
      out_safe = put-safe c.put_from.result (batch_items s.out) left p.left (λ e. (p.stays e).1) s.out_safe;
      few = s.few;
      aimed = s.aimed;
    }

pub returns-then-put_from-clause-hands : goal.returns-then-put_from-clause-hands
returns-then-put_from-clause-hands g c =
    let r = relay c.args.self.now in
    let put = c.put_from.ensures.puts.put c.if-put_from.true in
    let out = batch_items c.put_from.new.batch in
    let k : c.len-gave.result ≡ length r.out = search rules in
    inl (
      k,
      ap (λ l. record r { put = l; batches = length (items_put c.put_from.new.self.rear); out = out }) put.0
          ∙ (ap (λ m. record r { put = r.put ++ r.out; batches = m; out = out }) put.1
          ∙ ap (λ l. record r { put = r.put ++ r.out; batches = r.batches + 1; out = l }) (c.put_from.ensures.puts.left c.if-put_from.true)),
    )

pub returns-else-put_from-clause-hands : goal.returns-else-put_from-clause-hands
returns-else-put_from-clause-hands g c =
    let r = relay c.args.self.now in
    let stays = c.put_from.ensures.puts.stays c.if-put_from.false in
    inr (
      refl,
      ap (λ items. record r { put = flat_map parcel_items items; batches = length items; out = batch_items c.put_from.new.batch }) stays.0 ∙ ap (λ l. record r { out = l }) stays.1,
      inr (full r.batches (λ lt. sym c.if-put_from.false ∙ c.put_from.ensures.puts.room lt)),
    )

pub is_empty-requires : goal.is_empty-requires
is_empty-requires g c = member-batch (param 0 g.row.J) assumption

pub len-gave-requires : goal.len-gave-requires
len-gave-requires g c = member-batch (param 0 g.row.J) assumption

pub returns-then-is_empty-clause-lanes : goal.returns-then-is_empty-clause-lanes
returns-then-is_empty-clause-lanes g c = (refl, refl)

pub returns-then-is_empty-clause-advanced : goal.returns-then-is_empty-clause-advanced
returns-then-is_empty-clause-advanced g c = refl

pub returns-then-put_from-clause-lanes : goal.returns-then-put_from-clause-lanes
returns-then-put_from-clause-lanes g c = (refl, c.put_from.ensures.lane)

pub returns-then-put_from-clause-advanced : goal.returns-then-put_from-clause-advanced
returns-then-put_from-clause-advanced g c = refl

pub returns-else-put_from-clause-lanes : goal.returns-else-put_from-clause-lanes
returns-else-put_from-clause-lanes g c = (refl, c.put_from.ensures.lane)

pub returns-else-put_from-clause-advanced : goal.returns-else-put_from-clause-advanced
returns-else-put_from-clause-advanced g c = refl
