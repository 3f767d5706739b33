use Rattle.std.proofs.Common.{◌≡◌, suc, ◌+◌, ◌<◌, ◌≤◌, ◌∙◌, ◌∷◌, length, drop, get_or, sym, ap, arith, subst}
use Rattle.std.proofs.Math.Seq.{drop-cons}
use Rattle.std.proofs.lemmas.List.{drop_all}
use Rattle.rcu_parts.specs.AtClose.{hand_for}
use Rattle.rcu_parts.proofs.Passing.{room_at, room_of}
use Rattle.rcu_parts.proofs.RoomFor.{fits_all, fits_more, fits_none, taken_ran}
use Rattle.rcu_lists.proofs.Outcomes.{if_ok_never}
use Rattle.rcu_parts.proofs.room.find_ends.Goals as goal

pub loop-processor-init : goal.loop-processor-init
loop-processor-init g c = let made = c.in_ok-ends.ensures in record {
  fits = fits_none c.args.processors.now.items c.args.hands.now.items _ made.items;
  long = made.len;
  room = room_of _ _ _ _ c.len.ensures c.args.processors.now.ok.0 made.capacity;
}

pub push_reserved-requires : goal.push_reserved-requires
push_reserved-requires g c = let i = c.loop-processor.invariant in
    room_at _ _ _ _ i.long (subst (λ n. c.loop-processor.processor-index < n) (ap length c.deref-processor-items.ensures.value) c.loop-processor-test.true) i.room

pub loop-processor-preserved : goal.loop-processor-preserved
loop-processor-preserved g c =
    let i = c.loop-processor.processor-index in
    let p = c.processor-item.result in
    let ps = c.args.processors.now.items in
    let low : i < length ps = (let t = c.loop-processor-test.true in let e = ap length c.deref-processor-items.ensures.value in omega (arith, t, e)) in
    let at = drop-cons ps i p low in
    let next : suc i ≡ i + 1 = omega arith in
    let item : p ≡ get_or ps i p = c.processor-item.is ∙ ap (λ l. get_or l i p) c.deref-processor-items.ensures.value in
    let left = drop c.loop-processor.next c.args.hands.now.items in
    let put = c.push_reserved.ensures in record {
      fits = fits_more i c.loop-processor.next c.counted_by_hand-ran.result.2 ps c.args.hands.now.items c.loop-processor.ends.items c.push_reserved.new.self.items p c.in_ok-find_end.field-0 c.loop-processor.invariant.fits
          (at ∙ (ap (λ x. x ∷ drop (suc i) ps) (sym item) ∙ ap (λ k. p ∷ drop k ps) next)) c.counted_by_hand-ran.ensures.left put.items
          (c.in_ok-find_end.ensures (hand_for p left) (sym c.counted_by_hand-ran.ensures.kept) (taken_ran p left ∙ sym c.counted_by_hand-ran.ensures.ran));
      long = put.len ∙ ap (λ n. n + 1) c.loop-processor.invariant.long;
      room = subst (λ n. length ps ≤ n) (sym put.capacity) c.loop-processor.invariant.room;
    }

pub returns : goal.returns
returns g c = fits_all c.loop-processor.processor-index c.loop-processor.next c.args.processors.now.items c.args.hands.now.items c.loop-processor.ends.items c.loop-processor.invariant.fits (drop_all c.loop-processor.processor-index c.args.processors.now.items (let t = c.loop-processor-test.false in let e = ap length c.deref-processor-items.ensures.value in omega (arith, t, e)))

pub returns-in_err-ends : goal.returns-in_err-ends
returns-in_err-ends g c = if_ok_never _ _ c.from_residual.ensures

pub returns-in_err-find_end : goal.returns-in_err-find_end
returns-in_err-find_end g c = if_ok_never _ _ c.from_residual-in_err-find_end.ensures

pub find_end-requires : goal.find_end-requires
find_end-requires g c = assumption

pub counted_by_hand-ran-requires : goal.counted_by_hand-ran-requires
counted_by_hand-ran-requires g c = assumption

pub bounds-processor-items-processor-index : goal.bounds-processor-items-processor-index
bounds-processor-items-processor-index g c = c.loop-processor-test.true
