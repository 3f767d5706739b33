use Rattle.std.proofs.Common.{rules, ◌∷◌, [], ◌<◌, ◌∙◌, ap, arith, refl, subst, sym}
use Rattle.rcu_world_law.specs.Events.CoreEvent.{Accept}
use Rattle.rcu_world.specs.Turns.{IsAtRest, stamp_events}
use Rattle.rcu_world.proofs.Leading.{leads_then, seen_there}
use denote.Param.{param}
use Rattle.rcu_world.proofs.Fitting.{fits_there}
use Rattle.std.proofs.lemmas.List.{length-map}
use Rattle.rcu_world_processor.specs.Views.{seen}
use Rattle.rcu_world.proofs.Entering.{fresh_after}
use Rattle.rcu_world.proofs.Wholes.{if_ok_never, on_err}
use Rattle.rcu_world.proofs.Staying.{keeps_then, stays_by, stays_still}
use Rattle.rcu_world.proofs.worlds.World.call.Goals as goal

pub count-number-requires-after_bounds : goal.count-number-requires-after_bounds
count-number-requires-after_bounds g c κs within = fits_there (param 0 g.row.J) (param 1 g.row.J-Receipt) assumption

pub index-requires : goal.index-requires
index-requires g c = omega (arith, subst (λ n. c.args.cpu < n) (length-map c.args.self.now.core.processors.items (seen g.J.Job.key_of)) c.requires.there, c.args.self.now.core.processors.ok.0)

pub stamp_call-requires-after_bounds : goal.stamp_call-requires-after_bounds
stamp_call-requires-after_bounds g c κs within = (
  assumption,
  (
    c.accept_call.ensures.keeps.kept,
    (
      c.in_ok-accept_call.ensures.ready,
      fresh_after _ _ c.args.cpu (g.J.Job.key_of c.args.job) c.args.moment c.args.lazy c.requires.there c.in_ok-accept_call.ensures.events,
    ),
  ),
)

pub accept_call-requires-after_bounds : goal.accept_call-requires-after_bounds
accept_call-requires-after_bounds g c κs within = (assumption, (c.requires.world, (c.requires.there, (c.requires.here, c.requires.rest))))

pub returns : goal.returns
returns g c = record {
  called = record {
    events = (
        let r = c.stamp_call.ensures.events in
        (r.0, leads_then (λ w. Accept c.args.cpu (g.J.Job.key_of c.args.job) ∷ []) (stamp_events c.args.cpu c.args.moment c.args.lazy r.0) _ _ _ c.in_ok-accept_call.ensures.events r.1)
        );
    ticket = (
        let l = subst (λ n. c.args.cpu < n) (length-map c.args.self.now.core.processors.items (seen g.J.Job.key_of)) c.requires.there in
        record { cpu = refl; number = c.count-number.ensures ∙ ap (λ x. x.count) (seen_there g.J.Job.key_of c.args.self.now.core c.args.cpu c.index.result.now l c.index.ensures) }
        );
    same = search rules;
    refused = search rules;
    stays = stays_by (keeps_then c.accept_call.ensures.keeps c.stamp_call.ensures.keeps) (λ r. c.stamp_call.ensures.rest c.in_ok-accept_call.ensures.rest);
  };
}

pub returns-in_err-accept_call : goal.returns-in_err-accept_call
returns-in_err-accept_call g c = record {
  called = record {
    events = if_ok_never _ _ c.from_residual.ensures;
    ticket = if_ok_never _ _ c.from_residual.ensures;
    same = on_err _ _ c.in_err-accept_call.ensures.same;
    refused = search rules;
    stays = stays_still c.accept_call.ensures.keeps c.in_err-accept_call.ensures.same;
  };
}
