use Rattle.std.proofs.Common.{◌∙◌, ◌≡◌, true, ap, refl, arith, subst, sym, ℕ}
use Rattle.rcu_world_law.specs.Events.{is_enabled}
use Rattle.rcu_world_law.specs.Events.CoreEvent.{Shut}
use Rattle.rcu_world.specs.Turns.{IsAtRest, shuts, Leads, upto}
use Rattle.rcu_world.proofs.Leading.{leads_none, leads_upto}
use Rattle.std.proofs.lemmas.List.{length-map}
use Rattle.rcu_world_processor.specs.Views.{seen}
use Rattle.rcu_world.specs.Views.{state}
use Rattle.rcu_world.proofs.Wholes.{if_ok_never, leads_all, on_err}
use Rattle.rcu_world.proofs.Staying.{stays_by, stays_same, stays_still, stays_then}
use Rattle.rcu_world.proofs.worlds.World.shut.Goals as goal

pub loop-cpu-preserved : goal.loop-cpu-preserved
loop-cpu-preserved g c =
    let i = c.loop-cpu.invariant in
    record {
      leads = leads_upto shuts c.loop-cpu.cpu _ _ _ i.leads c.in_ok-attempt.ensures.leads.1;
      stays = stays_then i.stays (stays_by c.attempt.ensures.keeps (c.attempt.ensures.rest refl));
    }

pub returns-in_err-attempt-clause-err_enabled : goal.returns-in_err-attempt-clause-err_enabled
returns-in_err-attempt-clause-err_enabled g c = on_err ((cpu : ℕ) × (is_enabled (state g.J.Job.key_of c.attempt.new.self.core) (Shut cpu) ≡ true)) _
    (c.loop-cpu.cpu, ap (λ w. is_enabled w (Shut c.loop-cpu.cpu)) c.in_err-attempt.ensures.err ∙ c.in_err-attempt.ensures.err_enabled)

pub loop-cpu-init : goal.loop-cpu-init
loop-cpu-init g c = record { leads = leads_none shuts _; stays = stays_same c.requires.world }

pub attempt-requires-send-J : goal.attempt-requires-send-J
attempt-requires-send-J g c κs within = c.type_bounds.send-J

pub attempt-requires-send-J-Receipt : goal.attempt-requires-send-J-Receipt
attempt-requires-send-J-Receipt g c κs within = c.type_bounds.send-J-Receipt

pub attempt-requires-after_bounds : goal.attempt-requires-after_bounds
attempt-requires-after_bounds g c κs within = (assumption, c.loop-cpu.invariant.stays.kept)

pub returns-in_err-attempt-clause-counts : goal.returns-in_err-attempt-clause-counts
returns-in_err-attempt-clause-counts g c = if_ok_never _ _ c.from_residual.ensures

pub counts-requires-send-J : goal.counts-requires-send-J
counts-requires-send-J g c κs within = c.type_bounds.send-J

pub counts-requires-send-J-Receipt : goal.counts-requires-send-J-Receipt
counts-requires-send-J-Receipt g c κs within = c.type_bounds.send-J-Receipt

pub counts-requires-after_bounds : goal.counts-requires-after_bounds
counts-requires-after_bounds g c κs within = (assumption, c.loop-cpu.invariant.stays.kept.fit.few)

pub returns-clause-counts : goal.returns-clause-counts
returns-clause-counts g c = c.counts.ensures

pub returns-in_err-attempt-clause-events : goal.returns-in_err-attempt-clause-events
returns-in_err-attempt-clause-events g c = record {
  leads = if_ok_never _ _ c.from_residual.ensures;
  before = let w = state g.J.Job.key_of c.args.self.now.core in
      on_err ((n : ℕ) × Leads w (upto shuts n w) (state g.J.Job.key_of c.attempt.new.self.core)) _ (c.loop-cpu.cpu, subst (λ s. Leads w (upto shuts c.loop-cpu.cpu w) s) (sym c.in_err-attempt.ensures.err) c.loop-cpu.invariant.leads);
  stays = stays_then c.loop-cpu.invariant.stays (stays_still c.attempt.ensures.keeps c.in_err-attempt.ensures.err);
}

pub returns-clause-events : goal.returns-clause-events
returns-clause-events g c = record {
  leads = leads_all shuts c.loop-cpu.cpu _ _ _ (omega (arith, length-map c.args.self.now.core.processors.items (seen g.J.Job.key_of), c.args.self.now.core.processors.ok.0)) c.loop-cpu.invariant.leads;
  before = tt;
  stays = c.loop-cpu.invariant.stays;
}
