use Rattle.std.proofs.Common.{◌∙◌, Some, ap, sym, refl}
use Rattle.rcu_lists.specs.Stamps.{greater}
use Rattle.rcu_lists.proofs.Stamps.{newest-more}
use Rattle.rcu_lists.proofs.segments.greatest_stamp.Goals as goal

pub loop-callback-preserved-in-Some-greatest : goal.loop-callback-preserved-in-Some-greatest
loop-callback-preserved-in-Some-greatest g c = let stamp = c.in-Some.callback.now.stamp in
    ap Some c.max-so_far.ensures ∙ ap (λ o. Some (greater stamp o)) (sym c.in-Some-greatest.is) ∙ newest-more (λ r. r.now) c.loop-callback.yielded c.in-Some.callback c.loop-callback.greatest c.loop-callback.invariant

pub loop-callback-preserved : goal.loop-callback-preserved
loop-callback-preserved g c = let stamp = c.in-Some.callback.now.stamp in
    ap (λ o. Some (greater stamp o)) (sym c.in-None-greatest.is) ∙ newest-more (λ r. r.now) c.loop-callback.yielded c.in-Some.callback c.loop-callback.greatest c.loop-callback.invariant

pub loop-callback-init : goal.loop-callback-init
loop-callback-init g c = refl
