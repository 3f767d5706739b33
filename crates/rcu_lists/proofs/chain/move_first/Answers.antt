use Rattle.std.proofs.Common.{◌≡◌, [], ◌++◌, ◌-◌, ◌≤◌, ◌∙◌, drop, length, sym, ap, refl, arith, length-drop, length-set}
use Rattle.std.proofs.lemmas.List.{append-nil}
use Rattle.std.proofs.lemmas.Bool.{false≢true}
use Rattle.rcu_lists.specs.Blocks.{blocks_items}
use Rattle.rcu_lists.specs.Parcels.{places_items}
use Rattle.rcu_lists.proofs.Blocks.{first-block, first-changed, first-gone, more-blocks, moving-part, nothing-left}
use Rattle.rcu_lists.proofs.chain.move_first.Goals as goal

pub loop-more-init : goal.loop-more-init
loop-more-init g c = let n : c.args.number - c.args.number ≡ 0 = omega arith in record {
  moving = record { moved = rw n (sym (append-nil (places_items c.args.to.now))); rest = rw n refl; enough = omega arith };
  room = c.requires.room;
}

pub unreachable-requires : goal.unreachable-requires
unreachable-requires g c = let l = c.loop-more in
    absurd (false≢true (c.in_default.ensures.variant.1 (omega (arith, l.blocks.ok.0, more-blocks _ _ _ _ _ l.blocks.items l.invariant.moving c.requires.few c.loop-more-test.true))))

pub loop-more-preserved-then-len-eq0 : goal.loop-more-preserved-then-len-eq0
loop-more-preserved-then-len-eq0 g c = let l = c.loop-more in let bs = l.blocks.items in let first = places_items c.in-Some.first.now in
    let some = more-blocks _ _ _ _ _ bs l.invariant.moving c.requires.few c.loop-more-test.true in
    let few : c.min-part.result ≤ length first = omega (arith, c.min-part.ensures, c.len.ensures) in
    let le : c.min-part.result ≤ l.more = omega (arith, c.min-part.ensures) in
    let none : drop c.min-part.result first ≡ [] = nothing-left _ (sym c.len-in-loop-more.ensures ∙ c.if-len-eq0.true) c.move_into.ensures.left in
    record {
      moving = moving-part _ _ _ l.more c.min-part.result _ _ _ _ first (blocks_items (drop 1 bs)) l.invariant.moving (first-block bs c.in-Some.first.now some c.in-Some.ensures.value) few le c.move_into.ensures.moved
          (ap blocks_items (c.pop_front.ensures.rest ∙ first-gone bs c.move_into.new.self) ∙ ap (λ x. x ++ blocks_items (drop 1 bs)) (sym none));
      room = c.move_into.ensures.left_room (l.more - c.min-part.result) (omega (arith, l.invariant.room, le));
    }

pub loop-more-preserved : goal.loop-more-preserved
loop-more-preserved g c = let l = c.loop-more in let bs = l.blocks.items in let first = places_items c.in-Some.first.now in
    let some = more-blocks _ _ _ _ _ bs l.invariant.moving c.requires.few c.loop-more-test.true in
    let few : c.min-part.result ≤ length first = omega (arith, c.min-part.ensures, c.len.ensures) in
    let le : c.min-part.result ≤ l.more = omega (arith, c.min-part.ensures) in
    record {
      moving = moving-part _ _ _ l.more c.min-part.result _ _ _ _ first (blocks_items (drop 1 bs)) l.invariant.moving (first-block bs c.in-Some.first.now some c.in-Some.ensures.value) few le c.move_into.ensures.moved
          (first-changed bs c.move_into.new.self some ∙ ap (λ x. x ++ blocks_items (drop 1 bs)) c.move_into.ensures.left);
      room = c.move_into.ensures.left_room (l.more - c.min-part.result) (omega (arith, l.invariant.room, le));
    }

pub returns-clause-moved : goal.returns-clause-moved
returns-clause-moved g c = let none : c.args.number - c.loop-more.more ≡ c.args.number = omega arith in rw none at c.loop-more.invariant.moving.moved

pub returns-clause-left : goal.returns-clause-left
returns-clause-left g c = let none : c.args.number - c.loop-more.more ≡ c.args.number = omega arith in rw none at c.loop-more.invariant.moving.rest

pub overflow_sub-more : goal.overflow_sub-more
overflow_sub-more g c = omega (arith, c.min-part.ensures)

pub move_into-requires-clause-few : goal.move_into-requires-clause-few
move_into-requires-clause-few g c = omega (arith, c.min-part.ensures, c.len.ensures)

pub move_into-requires-clause-room : goal.move_into-requires-clause-room
move_into-requires-clause-room g c = omega (arith, c.loop-more.invariant.room, c.min-part.ensures)

pub loop-more-smaller-then-len-eq0 : goal.loop-more-smaller-then-len-eq0
loop-more-smaller-then-len-eq0 g c = let bs = c.loop-more.blocks.items in
    let some = more-blocks _ _ _ _ _ bs c.loop-more.invariant.moving c.requires.few c.loop-more-test.true in
    let fewer = ap length (c.pop_front.ensures.rest ∙ first-gone bs c.move_into.new.self) ∙ length-drop 1 bs in
    omega (arith, some, fewer, c.min-part.ensures)

pub loop-more-smaller : goal.loop-more-smaller
loop-more-smaller g c = let first = places_items c.in-Some.first.now in
    let rest = ap length c.move_into.ensures.left ∙ length-drop c.min-part.result first in
    let as_many = length-set c.loop-more.blocks.items 0 c.move_into.new.self in
    omega (arith, as_many, rest, c.min-part.ensures, c.len.ensures, c.len-in-loop-more.ensures, c.if-len-eq0.false, c.loop-more-test.true)
