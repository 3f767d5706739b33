use Rattle.std.proofs.Common.{◌∙◌, ◌≡◌, true, ap, refl, arith, subst, sym, ℕ}
use Rattle.rcu_world_law.specs.Events.{is_enabled}
use Rattle.rcu_world_law.specs.Events.CoreEvent.{Meet}
use Rattle.rcu_world.specs.Turns.{meets, Leads, upto}
use Rattle.rcu_world.proofs.Leading.{leads_none, leads_upto}
use Rattle.rcu_world.specs.Views.{state}
use Rattle.rcu_world.proofs.Wholes.{if_ok_never, leads_all, on_err}
use Rattle.rcu_world.proofs.Staying.{stays_by, stays_same, stays_still, stays_then}
use Rattle.rcu_world.proofs.worlds.World.meet_first.Goals as goal

pub loop-cpu-init : goal.loop-cpu-init
loop-cpu-init g c = record { leads = leads_none meets _; stays = stays_same c.requires }

pub loop-cpu-preserved : goal.loop-cpu-preserved
loop-cpu-preserved g c =
    let i = c.loop-cpu.invariant in
    record {
      leads = leads_upto meets c.loop-cpu.cpu _ _ _ i.leads c.in_ok-attempt.ensures.leads.1;
      stays = stays_then i.stays (stays_by c.attempt.ensures.keeps (c.attempt.ensures.rest refl));
    }

pub returns-in_err-attempt-clause-err_enabled : goal.returns-in_err-attempt-clause-err_enabled
returns-in_err-attempt-clause-err_enabled g c = on_err ((cpu : ℕ) × (is_enabled (state g.J.Job.key_of c.attempt.new.self.core) (Meet cpu) ≡ true)) _
    (c.loop-cpu.cpu, ap (λ w. is_enabled w (Meet c.loop-cpu.cpu)) c.in_err-attempt.ensures.err ∙ c.in_err-attempt.ensures.err_enabled)

pub attempt-requires-send-J : goal.attempt-requires-send-J
attempt-requires-send-J g c κs within = c.type_bounds.send-J

pub attempt-requires-send-J-Receipt : goal.attempt-requires-send-J-Receipt
attempt-requires-send-J-Receipt g c κs within = c.type_bounds.send-J-Receipt

pub attempt-requires-after_bounds : goal.attempt-requires-after_bounds
attempt-requires-after_bounds g c κs within = (assumption, c.loop-cpu.invariant.stays.kept)

pub returns-in_err-attempt-clause-events : goal.returns-in_err-attempt-clause-events
returns-in_err-attempt-clause-events g c = record {
  leads = if_ok_never _ _ c.from_residual.ensures;
  before = let w = state g.J.Job.key_of c.args.self.now.core in
      on_err ((n : ℕ) × Leads w (upto meets n w) (state g.J.Job.key_of c.attempt.new.self.core)) _ (c.loop-cpu.cpu, subst (λ s. Leads w (upto meets c.loop-cpu.cpu w) s) (sym c.in_err-attempt.ensures.err) c.loop-cpu.invariant.leads);
  stays = stays_then c.loop-cpu.invariant.stays (stays_still c.attempt.ensures.keeps c.in_err-attempt.ensures.err);
}

pub returns-clause-events : goal.returns-clause-events
returns-clause-events g c = record {
  leads = leads_all meets c.loop-cpu.cpu _ _ _ (omega arith) c.loop-cpu.invariant.leads;
  before = tt;
  stays = c.loop-cpu.invariant.stays;
}
