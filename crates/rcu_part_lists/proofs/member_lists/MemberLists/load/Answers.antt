use Rattle.std.proofs.Common.{◌≡◌, ◌++◌, inr, ap, sym, ◌∙◌, subst, inl, refl}
use Rattle.std.proofs.lemmas.Bool.{false≢true}
use Rattle.rcu_lists.specs.Batches.{batch_items}
use Rattle.rcu_lists.specs.Labels.{callbacks_of}
use Rattle.rcu_lists.specs.Release.{is_any}
use Rattle.rcu_lists.specs.BlockSegments.{block_labelled, block_advanced_by}
use Rattle.rcu_part_lists.specs.Aims.{AreAimed}
use Rattle.rcu_part_lists.specs.Lanes.{put_calls, drawn_calls}
use Rattle.rcu_part_lists.specs.MemberLists.{relay}
use Rattle.rcu_part_lists.specs.Limits.{AreSafe}
use Rattle.rcu_part_lists.proofs.Aims.{aimed-left}
use Rattle.rcu_part_lists.proofs.Releases.{other, some-in}
use Rattle.rcu_part_lists.proofs.Relays.{callbacks-left, made-out, safe-front, safe-back}
use Rattle.rcu_part_lists.proofs.Sizes.{member-batch}
use Rattle.rcu_lists.proofs.Outcomes.{either_way, on_ok_both}
use denote.Param.{param}
use Rattle.rcu_part_lists.proofs.member_lists.MemberLists.load.Goals as goal

pub invariant_of-self : goal.invariant_of-self
invariant_of-self g c =
    let s = c.args.self.now in
    let f = c.fill_batch.ensures in
    let r = c.fill_batch.result in
    let b = batch_items c.fill_batch.new.batch in
    let ys = block_labelled c.fill_batch.new.self in
    let cs : callbacks_of (block_labelled s.list) ≡ b ++ callbacks_of ys =
    either_way _ _ _ r f.taken f.refused (λ t. ap callbacks_of t ∙ callbacks-left b ys) (λ e. sym (ap (λ l. l ++ callbacks_of ys) e.1 ∙ ap callbacks_of e.0.list)) in
    let aimed : AreAimed (block_advanced_by s.list) ys =
    either_way _ _ _ r (on_ok_both _ _ r f.taken f.graced) f.refused
    (λ p. aimed-left (block_advanced_by s.list) b ys p.1 (subst (AreAimed (block_advanced_by s.list)) p.0 s.aimed)) (λ e. subst (AreAimed (block_advanced_by s.list)) (sym e.0.list) s.aimed) in
    record {
      order = made-out (drawn_calls s.inlet.front) (put_calls s.outlet.rear) (batch_items s.out) b (callbacks_of (block_labelled s.list)) (callbacks_of ys) (batch_items s.drawn) (c.is_empty.ensures.0 c.if-not-is_empty.false) cs s.order;
      drawn_safe = s.drawn_safe;
      list_safe = safe-back b (callbacks_of ys) (subst AreSafe cs s.list_safe);
      out_safe = safe-front b (callbacks_of ys) (subst AreSafe cs s.list_safe);
      few = s.few;
      aimed = subst (λ n. AreAimed n ys) (sym f.advanced) aimed;
    }

pub returns-in-Ok-clause-fits : goal.returns-in-Ok-clause-fits
returns-in-Ok-clause-fits g c = λ _ _. let r = relay c.args.self.now in record {
  none_waits = c.is_empty.ensures.0 c.if-not-is_empty.false;
  front = c.in-Ok.ensures.taken;
  number = c.in-Ok.ensures.number;
  others = ap (λ k. record r { list = block_labelled c.fill_batch.new.self; advanced = k; out = batch_items c.fill_batch.new.batch }) c.fill_batch.ensures.advanced;
}

pub returns-in-Ok-clause-loads : goal.returns-in-Ok-clause-loads
returns-in-Ok-clause-loads g c =
    let r = relay c.args.self.now in
    inr (record {
      none_waits = c.is_empty.ensures.0 c.if-not-is_empty.false;
      front = c.in-Ok.ensures.taken;
      number = c.in-Ok.ensures.number;
      others = ap (λ k. record r { list = block_labelled c.fill_batch.new.self; advanced = k; out = batch_items c.fill_batch.new.batch }) c.fill_batch.ensures.advanced;
    })

pub returns-then-not-is_empty-clause-fits : goal.returns-then-not-is_empty-clause-fits
returns-then-not-is_empty-clause-fits g c = λ none _. let xs = batch_items c.args.self.now.out in
    absurd (other (is_any xs) (some-in c.is_empty.result xs c.is_empty.ensures c.if-not-is_empty.true) (ap is_any none))

pub returns-in-Err-clause-fits : goal.returns-in-Err-clause-fits
returns-in-Err-clause-fits g c = λ _ few. absurd (false≢true (c.in-Err.ensures.inline few))

pub is_empty-requires : goal.is_empty-requires
is_empty-requires g c = member-batch (param 0 g.row.J) assumption

pub fill_batch-requires : goal.fill_batch-requires
fill_batch-requires g c = (member-batch (param 0 g.row.J) assumption, c.is_empty.ensures.0 c.if-not-is_empty.false)

pub returns-then-not-is_empty-clause-ends : goal.returns-then-not-is_empty-clause-ends
returns-then-not-is_empty-clause-ends g c = (refl, refl)

pub returns-in-Ok-clause-ends : goal.returns-in-Ok-clause-ends
returns-in-Ok-clause-ends g c = (refl, refl)

pub returns-in-Err-clause-ends : goal.returns-in-Err-clause-ends
returns-in-Err-clause-ends g c = (refl, refl)

pub returns-then-not-is_empty-clause-advanced : goal.returns-then-not-is_empty-clause-advanced
returns-then-not-is_empty-clause-advanced g c = refl

pub returns-in-Ok-clause-advanced : goal.returns-in-Ok-clause-advanced
returns-in-Ok-clause-advanced g c = c.fill_batch.ensures.advanced

pub returns-in-Err-clause-advanced : goal.returns-in-Err-clause-advanced
returns-in-Err-clause-advanced g c = c.fill_batch.ensures.advanced

pub returns-then-not-is_empty-clause-loads : goal.returns-then-not-is_empty-clause-loads
returns-then-not-is_empty-clause-loads g c = inl refl

pub returns-in-Err-clause-loads : goal.returns-in-Err-clause-loads
returns-in-Err-clause-loads g c = let r = relay c.args.self.now in
    let none = c.is_empty.ensures.0 c.if-not-is_empty.false in
    let out = batch_items c.fill_batch.new.batch in
    inl (ap (λ k. record r { list = block_labelled c.fill_batch.new.self; advanced = k; out = out }) c.fill_batch.ensures.advanced
    ∙ (ap (λ ws. record r { list = ws; out = out }) c.in-Err.ensures.refused.0.list ∙ ap (λ l. record r { out = l }) (c.in-Err.ensures.refused.1 ∙ sym none)))
