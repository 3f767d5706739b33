use Rattle.std.proofs.Common.{◌≡◌, true, false, cond, [], ◌∷◌, ◌∙◌, ◌<◌, ◌≤◌, ap, arith, refl, sym, subst}
use Rattle.std.proofs.lemmas.List.{length-map}
use Rattle.rcu_jobs.specs.declared.Stop.TheVariants as stops
use Rattle.rcu_world_law.specs.Events.{is_enabled, run}
use Rattle.rcu_world_law.specs.Events.CoreEvent.{Claim}
use Rattle.rcu_world_law.specs.States.{cpu_at}
use Rattle.rcu_world_processor.specs.Turns.{has_none}
use Rattle.rcu_world_processor.specs.Views.{seen}
use Rattle.rcu_world.specs.Turns.{IsAtRest, Leads, run_events, stop_of}
use Rattle.rcu_world.specs.Views.{state}
use Rattle.rcu_world.proofs.Leading.{leads_nothing, seen_there}
use Rattle.rcu_world.proofs.Places.{least_of, steps_on}
use Rattle.rcu_world.proofs.Running.{ran_one, rest_ran, stops_memory, stops_early, stops_at_limit, claim_test}
use denote.Param.{param}
use Rattle.rcu_world.proofs.Fitting.{fits_there}
use Rattle.rcu_world.proofs.Staying.{keeps_then, stays_by}
use Rattle.rcu_world.proofs.worlds.World.run_some.Goals as goal

pub why_no_claim-stop-requires-send-J : goal.why_no_claim-stop-requires-send-J
why_no_claim-stop-requires-send-J g c κs within = c.type_bounds.send-J

pub why_no_claim-stop-requires-send-J-Receipt : goal.why_no_claim-stop-requires-send-J-Receipt
why_no_claim-stop-requires-send-J-Receipt g c κs within = c.type_bounds.send-J-Receipt

pub why_no_claim-stop-requires-after_bounds : goal.why_no_claim-stop-requires-after_bounds
why_no_claim-stop-requires-after_bounds g c κs within = fits_there (param 0 g.row.J) (param 1 g.row.J-Receipt) assumption

pub loop-ran-preserved : goal.loop-ran-preserved
loop-ran-preserved g c =
    let i = c.loop-ran.invariant in
    let h = sym c.in-Ok-true.ensures.enabled ∙ c.in-Ok-true.field-0-test in
    record {
      leads = ran_one c.args.cpu c.args.by c.loop-ran.ran _ _ _ _ i.there i.leads h c.in-Ok-true.ensures.leads.1 c.perform.ensures.leads.1;
      most = omega arith;
      same = ap (λ s. s.blimit) (c.perform.ensures.keeps.shape ∙ c.attempt.ensures.keeps.shape) ∙ i.same;
      there = subst (λ n. c.args.cpu < n) (sym (c.perform.ensures.keeps.len ∙ c.attempt.ensures.keeps.len)) i.there;
      rest = rest_ran c.args.cpu c.args.by _ _ _ i.there i.rest h c.in-Ok-true.ensures.leads.1 c.perform.ensures.leads.1;
      keeps = keeps_then i.keeps (keeps_then c.attempt.ensures.keeps c.perform.ensures.keeps);
    }

pub index-requires : goal.index-requires
index-requires g c = omega (arith, subst (λ n. c.args.cpu < n) (sym c.attempt.ensures.keeps.len ∙ length-map c.attempt.new.self.core.processors.items (seen g.J.Job.key_of)) c.loop-ran.invariant.there, c.attempt.new.self.core.processors.ok.0)

pub returns-in-Err-clause-stop : goal.returns-in-Err-clause-stop
returns-in-Err-clause-stop g c =
    let i = c.loop-ran.invariant in
    subst (λ w. stops.Memory ≡ stop_of c.args.by w.shape.blimit c.loop-ran.ran (cpu_at w c.args.cpu)) (sym c.in-Err.ensures.err)
    (stops_memory c.args.by c.loop-ran.self.core.blimit c.loop-ran.ran (cpu_at (state g.J.Job.key_of c.loop-ran.self.core) c.args.cpu) (omega (arith, i.same))
    (claim_test (state g.J.Job.key_of c.loop-ran.self.core) c.args.cpu c.args.by true i.there c.in-Err.ensures.err_enabled))

pub returns-in-Ok-false-clause-stop : goal.returns-in-Ok-false-clause-stop
returns-in-Ok-false-clause-stop g c =
    let i = c.loop-ran.invariant in
    let w = state g.J.Job.key_of c.loop-ran.self.core in
    let new = state g.J.Job.key_of c.attempt.new.self.core in
    let h : is_enabled w (Claim c.args.cpu c.args.by) ≡ false = sym c.in-Ok-false.ensures.enabled ∙ c.in-Ok-false.field-0-test in
    let e : new ≡ w = c.in-Ok-false.ensures.leads.1.state ∙ ap (λ b. run (cond b (Claim c.args.cpu c.args.by ∷ []) []) w) h in
    let l = subst (λ n. c.args.cpu < n) (sym c.attempt.ensures.keeps.len ∙ length-map c.attempt.new.self.core.processors.items (seen g.J.Job.key_of)) i.there in
    let s = seen_there g.J.Job.key_of c.attempt.new.self.core c.args.cpu c.index.result.now l c.index.ensures in
    stops_early c.args.by c.attempt.new.self.core.blimit c.loop-ran.ran (cpu_at new c.args.cpu) c.why_no_claim-stop.result (omega (arith, ap (λ x. x.blimit) c.attempt.ensures.keeps.shape, i.same))
    (claim_test new c.args.cpu c.args.by false (subst (λ n. c.args.cpu < n) (sym c.attempt.ensures.keeps.len) i.there) (ap (λ x. is_enabled x (Claim c.args.cpu c.args.by)) e ∙ h))
    (c.why_no_claim-stop.ensures ∙ ap (λ x. cond (has_none c.args.by x) stops.Empty stops.Turn) s)

pub returns-clause-stop : goal.returns-clause-stop
returns-clause-stop g c =
    let i = c.loop-ran.invariant in
    stops_at_limit c.args.by c.loop-ran.self.core.blimit c.loop-ran.ran (cpu_at (state g.J.Job.key_of c.loop-ran.self.core) c.args.cpu) (omega (arith, i.most, i.same)) (omega (arith, i.same))

pub loop-ran-init : goal.loop-ran-init
loop-ran-init g c = record {
  leads = leads_nothing _ _ refl;
  most = least_of _;
  same = refl;
  there = c.requires.there;
  rest = c.requires.rest;
  keeps = record { kept = c.requires.world; shape = refl; len = refl };
}

pub attempt-requires-send-J : goal.attempt-requires-send-J
attempt-requires-send-J g c κs within = c.type_bounds.send-J

pub attempt-requires-send-J-Receipt : goal.attempt-requires-send-J-Receipt
attempt-requires-send-J-Receipt g c κs within = c.type_bounds.send-J-Receipt

pub attempt-requires-after_bounds : goal.attempt-requires-after_bounds
attempt-requires-after_bounds g c κs within = (assumption, c.loop-ran.invariant.keeps.kept)

pub perform-requires-send-J : goal.perform-requires-send-J
perform-requires-send-J g c κs within = c.type_bounds.send-J

pub perform-requires-send-J-Receipt : goal.perform-requires-send-J-Receipt
perform-requires-send-J-Receipt g c κs within = c.type_bounds.send-J-Receipt

pub perform-requires-after_bounds : goal.perform-requires-after_bounds
perform-requires-after_bounds g c κs within = (assumption, (c.attempt.ensures.keeps.kept, refl))

pub loop-ran-smaller : goal.loop-ran-smaller
loop-ran-smaller g c = steps_on _ _ c.loop-ran-test.true

pub returns-in-Err-clause-most : goal.returns-in-Err-clause-most
returns-in-Err-clause-most g c = subst (λ n. c.loop-ran.ran ≤ n) (sym (ap (λ s. s.blimit) c.attempt.ensures.keeps.shape ∙ c.loop-ran.invariant.same)) c.loop-ran.invariant.most

pub returns-in-Ok-false-clause-most : goal.returns-in-Ok-false-clause-most
returns-in-Ok-false-clause-most g c = subst (λ n. c.loop-ran.ran ≤ n) (sym (ap (λ s. s.blimit) c.attempt.ensures.keeps.shape ∙ c.loop-ran.invariant.same)) c.loop-ran.invariant.most

pub returns-clause-most : goal.returns-clause-most
returns-clause-most g c = subst (λ n. c.loop-ran.ran ≤ n) (sym c.loop-ran.invariant.same) c.loop-ran.invariant.most

pub returns-in-Err-clause-events : goal.returns-in-Err-clause-events
returns-in-Err-clause-events g c = record {
  leads = subst (λ w. Leads (state g.J.Job.key_of c.args.self.now.core) (run_events c.args.cpu c.args.by c.loop-ran.ran) w) (sym c.in-Err.ensures.err) c.loop-ran.invariant.leads;
  stays = stays_by (keeps_then c.loop-ran.invariant.keeps c.attempt.ensures.keeps) (λ _. subst IsAtRest (sym c.in-Err.ensures.err) c.loop-ran.invariant.rest);
}

pub returns-in-Ok-false-clause-events : goal.returns-in-Ok-false-clause-events
returns-in-Ok-false-clause-events g c = record {
  leads = (
      let e : state g.J.Job.key_of c.attempt.new.self.core ≡ state g.J.Job.key_of c.loop-ran.self.core = c.in-Ok-false.ensures.leads.1.state ∙ ap (λ b. run (cond b (Claim c.args.cpu c.args.by ∷ []) []) (state g.J.Job.key_of c.loop-ran.self.core)) (sym c.in-Ok-false.ensures.enabled ∙ c.in-Ok-false.field-0-test) in
      subst (λ w. Leads (state g.J.Job.key_of c.args.self.now.core) (run_events c.args.cpu c.args.by c.loop-ran.ran) w) (sym e) c.loop-ran.invariant.leads
      );
  stays = stays_by (keeps_then c.loop-ran.invariant.keeps c.attempt.ensures.keeps) (λ _. (let e : state g.J.Job.key_of c.attempt.new.self.core ≡ state g.J.Job.key_of c.loop-ran.self.core = c.in-Ok-false.ensures.leads.1.state ∙ ap (λ b. run (cond b (Claim c.args.cpu c.args.by ∷ []) []) (state g.J.Job.key_of c.loop-ran.self.core)) (sym c.in-Ok-false.ensures.enabled ∙ c.in-Ok-false.field-0-test) in
      subst IsAtRest (sym e) c.loop-ran.invariant.rest));
}

pub returns-clause-events : goal.returns-clause-events
returns-clause-events g c = record {
  leads = c.loop-ran.invariant.leads;
  stays = stays_by (c.loop-ran.invariant.keeps) (λ _. c.loop-ran.invariant.rest);
}
