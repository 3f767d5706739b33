use Rattle.std.proofs.Common.{◌<◌, ◌∷◌, [], ◌++◌, append_assoc, ap, map, subst, sym, ◌∙◌}
use Rattle.std.proofs.lemmas.List.{nil_from_length}
use Rattle.rcu_part_threads.specs.Dealing.{AreDealt}
use Rattle.rcu_part_threads.proofs.Dealt.{deal_step, next_turn}
use Rattle.rcu_lists.proofs.Outcomes.{if_ok_never}
use Rattle.rcu_part_threads.proofs.shares.deal.Goals as goal
use Rattle.rcu_lemmas.proofs.Zips.{all_of}

pub loop-job-preserved : goal.loop-job-preserved
loop-job-preserved g c = let l = c.loop-job in let i = l.invariant in let done = l.yielded in let job = c.in-Some.job in
    let all = c.len-many.ensures ∙ c.args.processors.ok.0 in let some = subst (λ n. 0 < n) (sym c.len-many.ensures) c.requires in
    let step = deal_step (λ x. x.jobs.items) (λ x. x.processor) c.args.processors.items done job l.callers.items l.next c.len-many.result c.index_mut.result.now c.add.new.self some all i.processors i.turn c.index_mut.ensures.value c.in_ok-add.ensures.processor c.in_ok-add.ensures.jobs i.dealt in record {
      order = append_assoc done (job ∷ []) c.next.new.self.rest.items ∙ (ap (λ x. done ++ x) (sym c.in-Some.ensures.steps.0) ∙ i.order);
      turn = next_turn l.next c.len-many.result done job i.turn;
      processors = step.0;
      dealt = step.1;
    }

pub returns : goal.returns
returns g c = let l = c.loop-job in let i = l.invariant in let rest = l.job-iterator.rest.items in let none = sym l.job-iterator.rest.ok.0 ∙ c.in-None.ensures.steps.0 in record {
  processors = i.processors;
  dealt = subst (λ jobs. AreDealt jobs (map (λ x. x.jobs.items) l.callers.items)) (all_of l.yielded rest c.args.jobs.items i.order (nil_from_length rest none)) i.dealt;
}

pub returns-in_err-callers-clause-processors : goal.returns-in_err-callers-clause-processors
returns-in_err-callers-clause-processors g c = if_ok_never _ _ c.from_residual.ensures

pub returns-in_err-callers-clause-dealt : goal.returns-in_err-callers-clause-dealt
returns-in_err-callers-clause-dealt g c = if_ok_never _ _ c.from_residual.ensures

pub nonzero_rem-next : goal.nonzero_rem-next
nonzero_rem-next g c = subst (λ n. 0 < n) (sym c.len-many.ensures) c.requires
