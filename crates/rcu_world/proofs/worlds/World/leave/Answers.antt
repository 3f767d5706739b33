use Rattle.std.proofs.Common.{◌≡◌, true, None, [], ◌∷◌, refl}
use Rattle.rcu_world_law.specs.Events.{is_enabled}
use Rattle.rcu_world_law.specs.Events.CoreEvent.{Leave, Put}
use Rattle.rcu_world.specs.Turns.{where_enabled}
use Rattle.rcu_world.specs.Views.{state}
use Rattle.rcu_world.proofs.Leading.{leads_one, leads_then}
use Rattle.rcu_world.proofs.Absences.{leaves_after}
use Rattle.rcu_world.proofs.Wholes.{if_ok_never, on_err}
use Rattle.rcu_world.proofs.Staying.{stays_by, stays_still, stays_then}
use Rattle.rcu_world.proofs.worlds.World.leave.Goals as goal

pub returns-in_err-attempt-clause-err_enabled : goal.returns-in_err-attempt-clause-err_enabled
returns-in_err-attempt-clause-err_enabled g c = on_err (is_enabled (state g.J.Job.key_of c.args.self.now.core) (Put c.args.cpu None) ≡ true) _ c.in_err-attempt.ensures.err_enabled

pub attempt-requires-send-J : goal.attempt-requires-send-J
attempt-requires-send-J g c κs within = c.type_bounds.send-J

pub attempt-requires-send-J-Receipt : goal.attempt-requires-send-J-Receipt
attempt-requires-send-J-Receipt g c κs within = c.type_bounds.send-J-Receipt

pub attempt-requires-after_bounds : goal.attempt-requires-after_bounds
attempt-requires-after_bounds g c κs within = (assumption, c.requires.world)

pub perform-requires-send-J : goal.perform-requires-send-J
perform-requires-send-J g c κs within = c.type_bounds.send-J

pub perform-requires-send-J-Receipt : goal.perform-requires-send-J-Receipt
perform-requires-send-J-Receipt g c κs within = c.type_bounds.send-J-Receipt

pub perform-requires-after_bounds : goal.perform-requires-after_bounds
perform-requires-after_bounds g c κs within = (assumption, (c.attempt.ensures.keeps.kept, refl))

pub returns-clause-events : goal.returns-clause-events
returns-clause-events g c = record {
  leads = let w = state g.J.Job.key_of c.args.self.now.core in
      let m = state g.J.Job.key_of c.attempt.new.self.core in
      leads_then (where_enabled (Put c.args.cpu None)) (λ w. Leave c.args.cpu ∷ []) _ _ _ c.in_ok-attempt.ensures.leads.1
      (leads_one m _ (Leave c.args.cpu) (leaves_after w m c.args.cpu c.requires.there c.requires.here c.in_ok-attempt.ensures.leads.1) c.perform.ensures.leads.1);
  same = tt;
  stays = stays_then (stays_by c.attempt.ensures.keeps (c.attempt.ensures.rest refl)) (stays_by c.perform.ensures.keeps (c.perform.ensures.rest refl));
}

pub returns-in_err-attempt-clause-events : goal.returns-in_err-attempt-clause-events
returns-in_err-attempt-clause-events g c = record {
  leads = if_ok_never _ _ c.from_residual.ensures;
  same = on_err (state g.J.Job.key_of c.attempt.new.self.core ≡ state g.J.Job.key_of c.args.self.now.core) _ c.in_err-attempt.ensures.err;
  stays = stays_still c.attempt.ensures.keeps c.in_err-attempt.ensures.err;
}
