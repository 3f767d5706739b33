use Rattle.std.proofs.Common.{◌<◌, ◌≤◌, ◌∙◌, inl, inr, refl, subst, sym}
use Rattle.rcu_world.specs.Views.{state}
use Rattle.rcu_world_replay.specs.Outcomes.{IsReturn}
use Rattle.rcu_world.proofs.Staying.{stays_same}
use Rattle.rcu_world_replay.proofs.commands.come_back.Goals as goal

pub returns-then-cpu-processors : goal.returns-then-cpu-processors
returns-then-cpu-processors g c = record {
  tells = record {
    line = subst (λ l. IsReturn (state g.J.Job.key_of c.args.world.now.core) c.args.cpu l (state g.J.Job.key_of c.args.world.now.core)) (sym c.no_such.ensures) (inl (subst (λ n. n ≤ c.args.cpu) c.processors.ensures c.if-cpu-processors.true, refl, refl));
    stays = stays_same c.requires.world;
  };
}

pub returns-then-not-is_away : goal.returns-then-not-is_away
returns-then-not-is_away g c = record {
  tells = record {
    line = subst (λ l. IsReturn (state g.J.Job.key_of c.args.world.now.core) c.args.cpu l (state g.J.Job.key_of c.args.world.now.core)) (sym c.not_away.ensures) (inr (subst (λ n. c.args.cpu < n) c.processors.ensures c.if-cpu-processors.false, sym c.is_away.ensures ∙ c.if-not-is_away.true, refl, refl));
    stays = stays_same c.requires.world;
  };
}

pub returns : goal.returns
returns g c = record { tells = record { line = (refl, c.come_back.ensures.events.leads); stays = c.come_back.ensures.events.stays } }

pub processors-requires-send-J : goal.processors-requires-send-J
processors-requires-send-J g c κs within = c.type_bounds.send-J

pub processors-requires-send-J-Receipt : goal.processors-requires-send-J-Receipt
processors-requires-send-J-Receipt g c κs within = c.type_bounds.send-J-Receipt

pub is_away-requires-send-J : goal.is_away-requires-send-J
is_away-requires-send-J g c κs within = c.type_bounds.send-J

pub is_away-requires-send-J-Receipt : goal.is_away-requires-send-J-Receipt
is_away-requires-send-J-Receipt g c κs within = c.type_bounds.send-J-Receipt

pub come_back-requires-send-J : goal.come_back-requires-send-J
come_back-requires-send-J g c κs within = c.type_bounds.send-J

pub come_back-requires-send-J-Receipt : goal.come_back-requires-send-J-Receipt
come_back-requires-send-J-Receipt g c κs within = c.type_bounds.send-J-Receipt

pub processors-requires-after_bounds : goal.processors-requires-after_bounds
processors-requires-after_bounds g c κs within = assumption

pub is_away-requires-after_bounds : goal.is_away-requires-after_bounds
is_away-requires-after_bounds g c κs within = assumption

pub come_back-requires-after_bounds : goal.come_back-requires-after_bounds
come_back-requires-after_bounds g c κs within = (assumption, (c.requires.world, (subst (λ n. c.args.cpu < n) c.processors.ensures c.if-cpu-processors.false, (sym c.is_away.ensures ∙ c.if-not-is_away.false, c.requires.rest))))
