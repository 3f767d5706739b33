use Rattle.std.proofs.Common.{rules, ◌∙◌, ◌++◌, map, ap, ◌+◌, ◌≤◌, length, sym, subst, vec_len, vec_capacity}
use Rattle.rcu_world_law.specs.Places.{key_of}
use Rattle.rcu_lists.specs.Segments.{labelled}
use Rattle.rcu_world_processor.proofs.Taking.{calls_waiting}
use Rattle.rcu_lists.specs.Labels.{callbacks_of}
use Rattle.rcu_lists.specs.declared.segments.Segments.{Segments}
use Rattle.rcu_world_processor.proofs.drain.take_waiting.Goals as goal

pub returns : goal.returns
returns g c = record {
  jobs = record {
    keys = (
        let k = g.J.Job.key_of in
        let e = calls_waiting k c.into_callbacks.result.items (labelled c.args.list.now) (c.into_callbacks.ensures ∙ ap (λ (s : Segments g.row.J.Denot). callbacks_of (labelled s)) c.replace-all.ensures.value) in
        c.take_calls.ensures.jobs.keys ∙ ap (λ xs. map k c.args.jobs.now.items ++ map key_of xs) e
        );
    len = (
        let k = g.J.Job.key_of in
        let e = calls_waiting k c.into_callbacks.result.items (labelled c.args.list.now) (c.into_callbacks.ensures ∙ ap (λ (s : Segments g.row.J.Denot). callbacks_of (labelled s)) c.replace-all.ensures.value) in
        c.take_calls.ensures.jobs.len ∙ ap (λ xs. vec_len c.args.jobs.now + length xs) e
        );
    capacity = search rules;
  };
}

pub take_calls-requires-after_bounds : goal.take_calls-requires-after_bounds
take_calls-requires-after_bounds g c κs within = let k = g.J.Job.key_of in
    let e = calls_waiting k c.into_callbacks.result.items (labelled c.args.list.now) (c.into_callbacks.ensures ∙ ap (λ (s : Segments g.row.J.Denot). callbacks_of (labelled s)) c.replace-all.ensures.value) in
    subst (λ xs. vec_len c.args.jobs.now + length xs ≤ vec_capacity c.args.jobs.now) (sym e) c.requires
