use Rattle.std.proofs.Common.{◌∷◌, [], ◌++◌, ◌∙◌, map, ap, subst, sym, refl}
use Rattle.std.proofs.lemmas.List.{map-append}
use Rattle.std.proofs.lemmas.List.Elements.{All-push}
use Rattle.rcu_jobs.specs.Records.{Given}
use Rattle.rcu_world_processor.specs.Views.{run}
use Rattle.rcu_world_processor.proofs.Sizes.{one_fits}
use Rattle.rcu_world_processor.proofs.claims.run_next.Goals as goal

pub push_reserved-requires : goal.push_reserved-requires
push_reserved-requires g c = one_fits _ _ c.requires

pub returns-clause-key : goal.returns-clause-key
returns-clause-key g c = c.run_callback-record.ensures.key

pub returns-clause-runs : goal.returns-clause-runs
returns-clause-runs g c = let rs = map run c.args.records.now.items in let e = c.run_callback-record.ensures in
    ap (map run) c.push_reserved.ensures.items ∙ map-append run c.args.records.now.items (c.run_callback-record.result ∷ []) ∙ ap (λ r. rs ++ r ∷ []) (rw (e.number, e.key, e.stamp, e.ready) refl)

pub returns-clause-given : goal.returns-clause-given
returns-clause-given g c = λ all. let gives = g.J.Job.gives in
    subst (Given gives) (sym c.push_reserved.ensures.items) (All-push (λ r. gives r.key r.receipt) c.args.records.now.items c.run_callback-record.result all c.run_callback-record.ensures.given)
