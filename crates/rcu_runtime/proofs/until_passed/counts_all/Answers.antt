use Rattle.std.proofs.Common.{◌∙◌, ◌<◌, ◌≤◌, ap, arith, get_or, length, refl, subst}
use Rattle.rcu_runtime.proofs.Settles.{one_more_counted}
use Rattle.rcu_runtime.proofs.Outcomes.{untrue}
use Rattle.rcu_runtime.proofs.until_passed.counts_all.Goals as goal

pub loop-processor-preserved : goal.loop-processor-preserved
loop-processor-preserved g c = let i = c.loop-processor.processor-index in
    one_more_counted c.args.counts.now i c.args.processors.now.items c.processor-item.result
    (subst (λ x. i < length x) c.deref-processor-items.ensures.value c.loop-processor-test.true)
    (c.processor-item.is ∙ ap (λ x. get_or x i c.processor-item.result) c.deref-processor-items.ensures.value)
    (c.if-not-counts_own.ensures refl) c.loop-processor.invariant

pub returns : goal.returns
returns g c = λ _ k d low. let i = c.loop-processor.processor-index in
    let done = subst (λ x. length x ≤ i) c.deref-processor-items.ensures.value c.loop-processor-test.false in
    c.loop-processor.invariant k d (omega (arith, low, done))

pub loop-processor-init : goal.loop-processor-init
loop-processor-init g c = λ k d low. absurd (omega (arith, low))

pub counts_own-requires-send-J : goal.counts_own-requires-send-J
counts_own-requires-send-J g c κs within = c.type_bounds.send-J

pub counts_own-requires-send-J-Receipt : goal.counts_own-requires-send-J-Receipt
counts_own-requires-send-J-Receipt g c κs within = c.type_bounds.send-J-Receipt

pub counts_own-requires-after_bounds : goal.counts_own-requires-after_bounds
counts_own-requires-after_bounds g c κs within = assumption

pub returns-then-not-counts_own : goal.returns-then-not-counts_own
returns-then-not-counts_own g c = untrue
