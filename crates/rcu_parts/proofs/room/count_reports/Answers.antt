use Rattle.std.proofs.Common.{◌≡◌, suc, ◌+◌, ◌<◌, ◌≤◌, ◌∙◌, ◌∷◌, ◌++◌, [], length, map, drop, get_or, sym, ap, arith, subst}
use Rattle.std.proofs.Math.Seq.{drop-cons}
use Rattle.std.proofs.lemmas.List.{drop_all}
use Rattle.rcu_lists.proofs.Outcomes.{if_ok_never}
use Rattle.rcu_parts.proofs.Counting.{all_counted, one_counted, passed_by}
use Rattle.rcu_parts.proofs.Passing.{room_at, room_of}
use Rattle.rcu_parts.proofs.room.count_reports.Goals as goal

pub loop-processor-init : goal.loop-processor-init
loop-processor-init g c = let made = c.in_ok-reports.ensures in record {
  counted = ap (λ l. l ++ map passed_by c.args.processors.now.items) made.items;
  long = made.len;
  room = room_of _ _ _ _ c.len.ensures c.args.processors.now.ok.0 made.capacity;
}

pub push_reserved-requires : goal.push_reserved-requires
push_reserved-requires g c = let i = c.loop-processor.invariant in
    room_at _ _ _ _ i.long (subst (λ n. c.loop-processor.processor-index < n) (ap length c.deref-processor-items.ensures.value) c.loop-processor-test.true) i.room

pub loop-processor-preserved : goal.loop-processor-preserved
loop-processor-preserved g c =
    let inv = c.loop-processor.invariant in
    let i = c.loop-processor.processor-index in
    let p = c.processor-item.result in
    let ps = c.args.processors.now.items in
    let put = c.push_reserved.ensures in
    let low : i < length ps = (let t = c.loop-processor-test.true in let e = ap length c.deref-processor-items.ensures.value in omega (arith, t, e)) in
    let next : suc i ≡ i + 1 = omega arith in
    let item : p ≡ get_or ps i p = c.processor-item.is ∙ ap (λ l. get_or l i p) c.deref-processor-items.ensures.value in
    record {
      counted = one_counted i p ps c.loop-processor.reports.items c.push_reserved.new.self.items
          (drop-cons ps i p low ∙ (ap (λ x. x ∷ drop (suc i) ps) (sym item) ∙ ap (λ k. p ∷ drop k ps) next))
          (put.items ∙ ap (λ n. c.loop-processor.reports.items ++ n ∷ []) c.reports.ensures) inv.counted;
      long = put.len ∙ ap (λ n. n + 1) inv.long;
      room = subst (λ n. length ps ≤ n) (sym put.capacity) inv.room;
    }

pub returns : goal.returns
returns g c =
    let i = c.loop-processor.processor-index in
    let ps = c.args.processors.now.items in
    all_counted i ps c.loop-processor.reports.items (drop_all i ps (let t = c.loop-processor-test.false in let e = ap length c.deref-processor-items.ensures.value in omega (arith, t, e))) c.loop-processor.invariant.counted

pub returns-in_err-reports : goal.returns-in_err-reports
returns-in_err-reports g c = if_ok_never _ _ c.from_residual.ensures

pub reports-requires : goal.reports-requires
reports-requires g c = assumption
