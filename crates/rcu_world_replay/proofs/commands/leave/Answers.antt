use Rattle.std.proofs.Common.{◌<◌, ◌≤◌, ◌∙◌, inl, inr, refl, subst, sym}
use Rattle.rcu_world.specs.Views.{state}
use Rattle.rcu_world_replay.specs.Outcomes.{IsLeave}
use Rattle.rcu_world.proofs.Staying.{stays_same}
use Rattle.rcu_world_replay.proofs.commands.leave.Goals as goal

pub returns-then-cpu-processors : goal.returns-then-cpu-processors
returns-then-cpu-processors g c = record {
  tells = record {
    line = subst (λ l. IsLeave (state g.J.Job.key_of c.args.world.now.core) c.args.cpu l (state g.J.Job.key_of c.args.world.now.core)) (sym c.no_such.ensures) (inl (inl (subst (λ n. n ≤ c.args.cpu) c.processors.ensures c.if-cpu-processors.true, refl, refl)));
    stays = stays_same c.requires.world;
  };
}

pub returns-then-is_away : goal.returns-then-is_away
returns-then-is_away g c = record {
  tells = record {
    line = subst (λ l. IsLeave (state g.J.Job.key_of c.args.world.now.core) c.args.cpu l (state g.J.Job.key_of c.args.world.now.core)) (sym c.away.ensures) (inl (inr (sym c.is_away.ensures ∙ c.if-is_away.true, refl, refl)));
    stays = stays_same c.requires.world;
  };
}

pub returns-in-Ok : goal.returns-in-Ok
returns-in-Ok g c = record { tells = record { line = (refl, c.in-Ok.ensures.events.leads); stays = c.leave.ensures.events.stays } }

pub returns-in-Err : goal.returns-in-Err
returns-in-Err g c = record {
  tells = record {
    line = subst (λ l. IsLeave (state g.J.Job.key_of c.args.world.now.core) c.args.cpu l (state g.J.Job.key_of c.leave.new.self.core)) (sym c.no_room.ensures) (inr (c.in-Err.ensures.err_enabled, sym c.is_away.ensures ∙ c.if-is_away.false, refl, c.in-Err.ensures.events.same));
    stays = c.leave.ensures.events.stays;
  };
}

pub processors-requires-send-J : goal.processors-requires-send-J
processors-requires-send-J g c κs within = c.type_bounds.send-J

pub processors-requires-send-J-Receipt : goal.processors-requires-send-J-Receipt
processors-requires-send-J-Receipt g c κs within = c.type_bounds.send-J-Receipt

pub is_away-requires-send-J : goal.is_away-requires-send-J
is_away-requires-send-J g c κs within = c.type_bounds.send-J

pub is_away-requires-send-J-Receipt : goal.is_away-requires-send-J-Receipt
is_away-requires-send-J-Receipt g c κs within = c.type_bounds.send-J-Receipt

pub leave-requires-send-J : goal.leave-requires-send-J
leave-requires-send-J g c κs within = c.type_bounds.send-J

pub leave-requires-send-J-Receipt : goal.leave-requires-send-J-Receipt
leave-requires-send-J-Receipt g c κs within = c.type_bounds.send-J-Receipt

pub processors-requires-after_bounds : goal.processors-requires-after_bounds
processors-requires-after_bounds g c κs within = assumption

pub is_away-requires-after_bounds : goal.is_away-requires-after_bounds
is_away-requires-after_bounds g c κs within = assumption

pub leave-requires-after_bounds : goal.leave-requires-after_bounds
leave-requires-after_bounds g c κs within = (assumption, (c.requires.world, (subst (λ n. c.args.cpu < n) c.processors.ensures c.if-cpu-processors.false, (sym c.is_away.ensures ∙ c.if-is_away.false, c.requires.rest))))
