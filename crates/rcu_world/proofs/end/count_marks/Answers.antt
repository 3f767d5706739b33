use Rattle.std.proofs.Common.{length, ◌<◌, ◌≤◌, ◌∙◌, ap, get_or, subst}
use Rattle.rcu_world_processor.specs.Leaving.{IsCounted}
use Rattle.rcu_world_processor.specs.Views.{seen}
use Rattle.rcu_world.proofs.Leaving.{all_at, one_fits, more_fits, marks_sum, marks_most, marks_end}
use Rattle.rcu_world.proofs.end.count_marks.Goals as goal

pub left-requires-send-J : goal.left-requires-send-J
left-requires-send-J g c κs within = c.type_bounds.send-J

pub left-requires-send-J-Receipt : goal.left-requires-send-J-Receipt
left-requires-send-J-Receipt g c κs within = c.type_bounds.send-J-Receipt

pub left-requires-after_bounds : goal.left-requires-after_bounds
left-requires-after_bounds g c κs within = (
  assumption,
  all_at (λ p. IsCounted (seen g.J.Job.key_of p)) c.args.processors.now.items c.loop-p.p-index c.p-item.result
      (subst (λ x. c.loop-p.p-index < length x) c.deref-p-items.ensures.value c.loop-p-test.true) (c.p-item.is ∙ ap (λ x. get_or x c.loop-p.p-index c.p-item.result) c.deref-p-items.ensures.value) c.requires.counted,
)

pub overflow_add-count : goal.overflow_add-count
overflow_add-count g c =
    let l = subst (λ x. c.loop-p.p-index < length x) c.deref-p-items.ensures.value c.loop-p-test.true in
    one_fits (seen g.J.Job.key_of c.p-item.result) c.left.result (all_at (λ p. IsCounted (seen g.J.Job.key_of p)) c.args.processors.now.items c.loop-p.p-index c.p-item.result l (c.p-item.is ∙ ap (λ x. get_or x c.loop-p.p-index c.p-item.result) c.deref-p-items.ensures.value) c.requires.counted) c.left.ensures

pub overflow_add-count-in-loop-p : goal.overflow_add-count-in-loop-p
overflow_add-count-in-loop-p g c =
    let l = subst (λ x. c.loop-p.p-index < length x) c.deref-p-items.ensures.value c.loop-p-test.true in
    more_fits (seen g.J.Job.key_of c.p-item.result) c.left.result c.loop-p.count c.loop-p.p-index (length c.args.processors.now.items)
    (all_at (λ p. IsCounted (seen g.J.Job.key_of p)) c.args.processors.now.items c.loop-p.p-index c.p-item.result l (c.p-item.is ∙ ap (λ x. get_or x c.loop-p.p-index c.p-item.result) c.deref-p-items.ensures.value) c.requires.counted) c.left.ensures c.loop-p.invariant.most l
    (subst (λ n. n ≤ 32) c.args.processors.now.ok.0 c.requires.few)

pub loop-p-preserved : goal.loop-p-preserved
loop-p-preserved g c =
    let l = subst (λ x. c.loop-p.p-index < length x) c.deref-p-items.ensures.value c.loop-p-test.true in
    record {
      all = marks_sum g.J.Job.key_of c.args.processors.now.items c.loop-p.p-index c.p-item.result c.left.result c.loop-p.count _ l (c.p-item.is ∙ ap (λ x. get_or x c.loop-p.p-index c.p-item.result) c.deref-p-items.ensures.value) c.left.ensures c.loop-p.invariant.all;
      most = marks_most (seen g.J.Job.key_of c.p-item.result) c.left.result c.loop-p.count c.loop-p.p-index
          (all_at (λ p. IsCounted (seen g.J.Job.key_of p)) c.args.processors.now.items c.loop-p.p-index c.p-item.result l (c.p-item.is ∙ ap (λ x. get_or x c.loop-p.p-index c.p-item.result) c.deref-p-items.ensures.value) c.requires.counted) c.left.ensures c.loop-p.invariant.most;
    }

pub returns : goal.returns
returns g c = marks_end g.J.Job.key_of c.args.processors.now.items c.loop-p.p-index c.loop-p.count _ (subst (λ x. length x ≤ c.loop-p.p-index) c.deref-p-items.ensures.value c.loop-p-test.false) c.loop-p.invariant.all
