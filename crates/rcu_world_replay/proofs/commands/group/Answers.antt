use Rattle.std.proofs.Common.{◌∙◌, refl, subst, sym}
use Rattle.rcu_world.specs.Views.{state}
use Rattle.rcu_world.proofs.Wholes.{if_ok_never}
use Rattle.rcu_world_replay.specs.Outcomes.{IsGroup}
use Rattle.rcu_world.proofs.Staying.{stays_same}
use Rattle.rcu_world_replay.proofs.commands.group.Goals as goal

pub has_group-requires-send-J : goal.has_group-requires-send-J
has_group-requires-send-J g c κs within = c.type_bounds.send-J

pub has_group-requires-send-J-Receipt : goal.has_group-requires-send-J-Receipt
has_group-requires-send-J-Receipt g c κs within = c.type_bounds.send-J-Receipt

pub group_turn-requires-send-J : goal.group_turn-requires-send-J
group_turn-requires-send-J g c κs within = c.type_bounds.send-J

pub group_turn-requires-send-J-Receipt : goal.group_turn-requires-send-J-Receipt
group_turn-requires-send-J-Receipt g c κs within = c.type_bounds.send-J-Receipt

pub has_group-requires-after_bounds : goal.has_group-requires-after_bounds
has_group-requires-after_bounds g c κs within = (assumption, c.requires.world)

pub group_turn-requires-after_bounds : goal.group_turn-requires-after_bounds
group_turn-requires-after_bounds g c κs within = (assumption, (c.requires.world, (sym c.has_group.ensures ∙ c.if-not-has_group.false, c.requires.rest)))

pub returns-then-not-has_group : goal.returns-then-not-has_group
returns-then-not-has_group g c = record {
  answers = record {
    line = subst (λ l. IsGroup (state g.J.Job.key_of c.args.world.now.core) c.args.group l (state g.J.Job.key_of c.args.world.now.core)) (sym c.no_such.ensures) (sym c.has_group.ensures ∙ c.if-not-has_group.true, refl, refl);
    stays = stays_same c.requires.world;
  };
}

pub returns-in_err-turn : goal.returns-in_err-turn
returns-in_err-turn g c = record {
  answers = record {
    line = if_ok_never _ _ c.from_residual.ensures;
    stays = c.group_turn.ensures.events.stays;
  };
}

pub returns : goal.returns
returns g c = record {
  answers = record {
    line = (sym c.has_group.ensures ∙ c.if-not-has_group.false, refl, c.in_ok-turn.ensures.events.made);
    stays = c.group_turn.ensures.events.stays;
  };
}
