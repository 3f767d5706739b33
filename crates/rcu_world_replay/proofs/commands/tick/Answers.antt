use Rattle.std.proofs.Common.{rules, ◌<◌, ◌≤◌, ◌∙◌, inl, inr, refl, subst, sym}
use Rattle.rcu_world.specs.Views.{state}
use Rattle.rcu_world.proofs.Wholes.{if_ok_never}
use Rattle.rcu_world_replay.specs.Outcomes.{IsTick}
use Rattle.rcu_world.proofs.Staying.{stays_same}
use Rattle.rcu_world_replay.proofs.commands.tick.Goals as goal

pub processors-requires-send-J : goal.processors-requires-send-J
processors-requires-send-J g c κs within = c.type_bounds.send-J

pub processors-requires-send-J-Receipt : goal.processors-requires-send-J-Receipt
processors-requires-send-J-Receipt g c κs within = c.type_bounds.send-J-Receipt

pub tick-requires-send-J : goal.tick-requires-send-J
tick-requires-send-J g c κs within = c.type_bounds.send-J

pub tick-requires-send-J-Receipt : goal.tick-requires-send-J-Receipt
tick-requires-send-J-Receipt g c κs within = c.type_bounds.send-J-Receipt

pub processors-requires-after_bounds : goal.processors-requires-after_bounds
processors-requires-after_bounds g c κs within = assumption

pub tick-requires-after_bounds : goal.tick-requires-after_bounds
tick-requires-after_bounds g c κs within = (assumption, (c.requires.world, (subst (λ n. c.args.cpu < n) c.processors.ensures c.if-cpu-processors.false, (sym c.is_away.ensures ∙ c.if-is_away.false, c.requires.rest))))

pub returns-then-cpu-processors : goal.returns-then-cpu-processors
returns-then-cpu-processors g c = record {
  answers = record {
    line = subst (λ l. IsTick (state g.J.Job.key_of c.args.world.now.core) c.args.cpu c.args.moment l (state g.J.Job.key_of c.args.world.now.core)) (sym c.no_such.ensures) (inl (subst (λ n. n ≤ c.args.cpu) c.processors.ensures c.if-cpu-processors.true, refl, refl));
    stays = stays_same c.requires.world;
  };
}

pub returns-then-is_away : goal.returns-then-is_away
returns-then-is_away g c = record {
  answers = record {
    line = subst (λ l. IsTick (state g.J.Job.key_of c.args.world.now.core) c.args.cpu c.args.moment l (state g.J.Job.key_of c.args.world.now.core)) (sym c.away.ensures) (inr (sym c.is_away.ensures ∙ c.if-is_away.true, refl, refl));
    stays = stays_same c.requires.world;
  };
}

pub returns-in_err-ticked : goal.returns-in_err-ticked
returns-in_err-ticked g c = record {
  answers = record {
    line = if_ok_never _ _ c.from_residual.ensures;
    stays = c.tick.ensures.events.stays;
  };
}

pub returns : goal.returns
returns g c = record {
  answers = record {
    line = (subst (λ n. c.args.cpu < n) c.processors.ensures c.if-cpu-processors.false, sym c.is_away.ensures ∙ c.if-is_away.false, refl, refl, c.in_ok-ticked.ensures.events.made);
    stays = c.tick.ensures.events.stays;
  };
}

pub is_away-requires-send-J : goal.is_away-requires-send-J
is_away-requires-send-J g c κs within = c.type_bounds.send-J

pub is_away-requires-send-J-Receipt : goal.is_away-requires-send-J-Receipt
is_away-requires-send-J-Receipt g c κs within = c.type_bounds.send-J-Receipt

pub is_away-requires-after_bounds : goal.is_away-requires-after_bounds
is_away-requires-after_bounds g c κs within = assumption
