use Rattle.std.proofs.Common.{◌≡◌, ◌+◌, refl, sym, ap, ◌∙◌, length, subst, arith}
use Rattle.std.specs.Mem.{FitsInMemory}
use denote.Param.{param}
use Rattle.rcu_lanes.specs.Ends.{SameFront}
use Rattle.rcu_part_lists.specs.contracts.member_lists.MemberLists as member_row
use Rattle.rcu_part_lists.specs.MemberLists.{Relay, relay, front_of, most_batches, TakesIn}
use Rattle.rcu_part_lists.proofs.Relays.{taken-none, taken-more, taken-join, taken-draw, taken-within}
use Rattle.rcu_part_lists.proofs.Sizes.{member-batch}
use Rattle.rcu_part_lists.proofs.member_lists.MemberLists.take_in.Goals as goal

pub loop-drawing-init : goal.loop-drawing-init
loop-drawing-init g c = record { front = refl; rear = refl; advanced = refl; takes = taken-none (relay c.args.self.now) }

pub returns-then-not-join_one-clause-takes : goal.returns-then-not-join_one-clause-takes
returns-then-not-join_one-clause-takes g c =
    let o = relay c.args.self.now in
    let n = relay c.loop-drawing.self in
    let k = relay c.join_one.new.self in
    taken-more c.loop-drawing.drawing most_batches c.loop-drawing.took o k (omega (arith, c.loop-drawing-test.true))
    (taken-join c.loop-drawing.drawing c.loop-drawing.took c.join_one.result o n k c.loop-drawing.invariant.takes c.join_one.ensures.joins c.join_one.ensures.waits)

pub draw_one-requires : goal.draw_one-requires
draw_one-requires g c =
    let h : FitsInMemory (member_row.the_row (param 0 g.row.J)) = assumption in
    (h, ap (λ (r : Relay g.row.J.Denot). r.drawn) (c.join_one.ensures.joins c.if-not-join_one.false))

pub returns-then-not-draw_one-clause-takes : goal.returns-then-not-draw_one-clause-takes
returns-then-not-draw_one-clause-takes g c =
    let o = relay c.args.self.now in
    let n = relay c.loop-drawing.self in
    let k = relay c.join_one.new.self in
    subst (TakesIn most_batches c.loop-drawing.took o) (sym (c.draw_one.ensures.none c.if-not-draw_one.true))
    (taken-more c.loop-drawing.drawing most_batches c.loop-drawing.took o k (omega (arith, c.loop-drawing-test.true))
    (taken-join c.loop-drawing.drawing c.loop-drawing.took c.join_one.result o n k c.loop-drawing.invariant.takes c.join_one.ensures.joins c.join_one.ensures.waits))

pub overflow_add-took : goal.overflow_add-took
overflow_add-took g c =
    let o = relay c.args.self.now in
    let n = relay c.loop-drawing.self in
    let k = relay c.join_one.new.self in
    let m = relay c.draw_one.new.self in
    let t = taken-join c.loop-drawing.drawing c.loop-drawing.took c.join_one.result o n k c.loop-drawing.invariant.takes c.join_one.ensures.joins c.join_one.ensures.waits in
    let d = taken-draw c.loop-drawing.drawing c.loop-drawing.took o k m t (ap (λ (r : Relay g.row.J.Denot). r.drawn) (c.join_one.ensures.joins c.if-not-join_one.false)) (c.draw_one.ensures.draws c.if-not-draw_one.false) in
    let w = taken-within (c.loop-drawing.drawing + 1) (c.loop-drawing.took + length m.drawn) o m d c.draw_one.new.self.few in
    let l : c.len-took.result ≡ length m.drawn = c.len-took.ensures in omega (arith, w, l)

pub loop-drawing-preserved : goal.loop-drawing-preserved
loop-drawing-preserved g c =
    let o = relay c.args.self.now in
    let n = relay c.loop-drawing.self in
    let k = relay c.join_one.new.self in
    let m = relay c.draw_one.new.self in
    let t = taken-join c.loop-drawing.drawing c.loop-drawing.took c.join_one.result o n k c.loop-drawing.invariant.takes c.join_one.ensures.joins c.join_one.ensures.waits in
    let d = taken-draw c.loop-drawing.drawing c.loop-drawing.took o k m t (ap (λ (r : Relay g.row.J.Denot). r.drawn) (c.join_one.ensures.joins c.if-not-join_one.false)) (c.draw_one.ensures.draws c.if-not-draw_one.false) in
    record {
      front = c.draw_one.ensures.lanes.0 ∙ subst (SameFront (front_of c.args.self.now)) (sym c.join_one.ensures.ends.0) c.loop-drawing.invariant.front;
      rear = c.draw_one.ensures.lanes.1 ∙ (c.join_one.ensures.ends.1 ∙ c.loop-drawing.invariant.rear);
      advanced = c.draw_one.ensures.advanced ∙ (c.join_one.ensures.advanced ∙ c.loop-drawing.invariant.advanced);
      takes = subst (λ z. TakesIn (c.loop-drawing.drawing + 1) (c.loop-drawing.took + z) o m) (sym c.len-took.ensures) d;
    }

pub returns-clause-takes : goal.returns-clause-takes
returns-clause-takes g c =
    let o = relay c.args.self.now in
    let n = relay c.loop-drawing.self in
    let k = relay c.join_one-2.new.self in
    taken-more c.loop-drawing.drawing most_batches c.loop-drawing.took o k (omega (arith, c.loop-drawing.auto.drawing-end))
    (taken-join c.loop-drawing.drawing c.loop-drawing.took c.join_one-2.result o n k c.loop-drawing.invariant.takes c.join_one-2.ensures.joins c.join_one-2.ensures.waits)

pub len-took-requires : goal.len-took-requires
len-took-requires g c = member-batch (param 0 g.row.J) assumption

pub join_one-requires : goal.join_one-requires
join_one-requires g c = assumption

pub join_one-requires-2 : goal.join_one-requires-2
join_one-requires-2 g c = assumption

pub returns-then-not-join_one-clause-lanes : goal.returns-then-not-join_one-clause-lanes
returns-then-not-join_one-clause-lanes g c =
    let e = c.join_one.ensures.ends in
    let i = c.loop-drawing.invariant in
    (subst (SameFront (front_of c.args.self.now)) (sym e.0) i.front, e.1 ∙ i.rear)

pub returns-then-not-join_one-clause-advanced : goal.returns-then-not-join_one-clause-advanced
returns-then-not-join_one-clause-advanced g c = c.join_one.ensures.advanced ∙ c.loop-drawing.invariant.advanced

pub returns-then-not-draw_one-clause-lanes : goal.returns-then-not-draw_one-clause-lanes
returns-then-not-draw_one-clause-lanes g c =
    let d = c.draw_one.ensures.lanes in
    let e = c.join_one.ensures.ends in
    let i = c.loop-drawing.invariant in
    (d.0 ∙ subst (SameFront (front_of c.args.self.now)) (sym e.0) i.front, d.1 ∙ (e.1 ∙ i.rear))

pub returns-then-not-draw_one-clause-advanced : goal.returns-then-not-draw_one-clause-advanced
returns-then-not-draw_one-clause-advanced g c = c.draw_one.ensures.advanced ∙ (c.join_one.ensures.advanced ∙ c.loop-drawing.invariant.advanced)

pub returns-clause-lanes : goal.returns-clause-lanes
returns-clause-lanes g c =
    let e = c.join_one-2.ensures.ends in
    let i = c.loop-drawing.invariant in
    (subst (SameFront (front_of c.args.self.now)) (sym e.0) i.front, e.1 ∙ i.rear)

pub returns-clause-advanced : goal.returns-clause-advanced
returns-clause-advanced g c = c.join_one-2.ensures.advanced ∙ c.loop-drawing.invariant.advanced
