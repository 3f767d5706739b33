use Rattle.std.proofs.Common.{◌≡◌, ◌≤◌, ◌++◌, ◌+◌, ◌-◌, ◌∙◌, take, drop, sym, ap, subst, arith, append_assoc, length, length-drop}
use Rattle.std.proofs.Math.Seq.{take-add}
use Rattle.std.proofs.lemmas.List.{drop-drop, drop_all, take_all}
use Rattle.rcu_lists.specs.Blocks.{BlockRoom}
use Rattle.rcu_lists.specs.Parcels.{places_items}
use Rattle.rcu_lists.proofs.parcel.Places.move_into.Goals as goal

pub move_first-requires : goal.move_first-requires
move_first-requires g c = let xs = places_items c.args.self.now in let n = ap length c.loop.invariant.left in let left = length-drop c.loop.counter xs in
    record { some = omega (arith, n, left, c.requires.few, c.loop-test.true); room = omega (arith, c.loop.invariant.room, c.loop-test.true) }

pub loop-preserved : goal.loop-preserved
loop-preserved g c = let xs = places_items c.args.self.now in let i = c.loop.counter in record {
  moved = c.move_first.ensures.moved ∙ ap (λ z. places_items c.loop.to ++ take 1 z) c.loop.invariant.left ∙ ap (λ z. z ++ take 1 (drop i xs)) c.loop.invariant.moved
      ∙ append_assoc (places_items c.args.to.now) (take i xs) (take 1 (drop i xs)) ∙ ap (λ z. places_items c.args.to.now ++ z) (sym (take-add i 1 xs));
  left = c.move_first.ensures.left ∙ ap (drop 1) c.loop.invariant.left ∙ drop-drop 1 i xs;
  room = c.move_first.ensures.left_room (c.args.number - (i + 1)) (omega arith);
  left_room = λ k h. c.move_first.ensures.left_room k (c.loop.invariant.left_room (k + 1) (omega (arith, h)));
}

pub returns-clause-moved : goal.returns-clause-moved
returns-clause-moved g c = let all : c.loop.counter ≡ c.args.number = omega arith in rw all at c.loop.invariant.moved

pub returns-clause-left : goal.returns-clause-left
returns-clause-left g c = let all : c.loop.counter ≡ c.args.number = omega arith in rw all at c.loop.invariant.left

pub returns-clause-left_room : goal.returns-clause-left_room
returns-clause-left_room g c = let all : c.loop.counter ≡ c.args.number = omega arith in rw all at c.loop.invariant.left_room

pub move_whole-requires : goal.move_whole-requires
move_whole-requires g c = let s = c.args.self.now in let n = length-drop s.next s.slots.items in
    let many : c.args.number ≡ length (places_items s) = omega (arith, n, s.full, c.if-self-eq0.true, c.if-number-len.true, c.len.ensures, s.slots.ok.0) in
    record { whole = c.if-self-eq0.true; room = subst (BlockRoom c.args.to.now) many c.requires.room }

pub returns-then-number-len-clause-moved : goal.returns-then-number-len-clause-moved
returns-then-number-len-clause-moved g c = let s = c.args.self.now in let n = length-drop s.next s.slots.items in
    let many : length (places_items s) ≤ c.args.number = omega (arith, n, s.full, c.if-self-eq0.true, c.if-number-len.true, c.len.ensures, s.slots.ok.0) in
    c.move_whole.ensures.moved ∙ ap (λ z. places_items c.args.to.now ++ z) (sym (take_all c.args.number (places_items s) many))

pub returns-then-number-len-clause-left : goal.returns-then-number-len-clause-left
returns-then-number-len-clause-left g c = let s = c.args.self.now in let n = length-drop s.next s.slots.items in
    let many : length (places_items s) ≤ c.args.number = omega (arith, n, s.full, c.if-self-eq0.true, c.if-number-len.true, c.len.ensures, s.slots.ok.0) in
    c.move_whole.ensures.left ∙ sym (drop_all c.args.number (places_items s) many)

pub returns-then-number-len-clause-left_room : goal.returns-then-number-len-clause-left_room
returns-then-number-len-clause-left_room g c = let s = c.args.self.now in let n = length-drop s.next s.slots.items in
    let many : c.args.number ≡ length (places_items s) = omega (arith, n, s.full, c.if-self-eq0.true, c.if-number-len.true, c.len.ensures, s.slots.ok.0) in
    λ k h. c.move_whole.ensures.left_room k (omega (arith, h, many))
