use Rattle.std.proofs.Common.{rules, ◌<◌, ◌≤◌, ◌∙◌, length, subst, sym}
use Rattle.rcu_world.specs.Views.{state}
use Rattle.rcu_world_replay.specs.Outcomes.{IsHand}
use Rattle.rcu_world_replay.proofs.Refusals.{no_hand, not_offloadable}
use Rattle.rcu_world.proofs.Staying.{stays_same}
use Rattle.rcu_world_replay.proofs.commands.hand.Goals as goal

pub hand_turn-requires-after_bounds : goal.hand_turn-requires-after_bounds
hand_turn-requires-after_bounds g c κs within = (assumption, (c.requires.world, (sym c.has_hand.ensures ∙ c.if-not-has_hand.false, c.requires.rest)))

pub processors-requires-send-J : goal.processors-requires-send-J
processors-requires-send-J g c κs within = c.type_bounds.send-J

pub processors-requires-send-J-Receipt : goal.processors-requires-send-J-Receipt
processors-requires-send-J-Receipt g c κs within = c.type_bounds.send-J-Receipt

pub has_hand-requires-send-J : goal.has_hand-requires-send-J
has_hand-requires-send-J g c κs within = c.type_bounds.send-J

pub has_hand-requires-send-J-Receipt : goal.has_hand-requires-send-J-Receipt
has_hand-requires-send-J-Receipt g c κs within = c.type_bounds.send-J-Receipt

pub hand_turn-requires-send-J : goal.hand_turn-requires-send-J
hand_turn-requires-send-J g c κs within = c.type_bounds.send-J

pub hand_turn-requires-send-J-Receipt : goal.hand_turn-requires-send-J-Receipt
hand_turn-requires-send-J-Receipt g c κs within = c.type_bounds.send-J-Receipt

pub processors-requires-after_bounds : goal.processors-requires-after_bounds
processors-requires-after_bounds g c κs within = assumption

pub has_hand-requires-after_bounds : goal.has_hand-requires-after_bounds
has_hand-requires-after_bounds g c κs within = assumption

pub returns-then-cpu-processors : goal.returns-then-cpu-processors
returns-then-cpu-processors g c = record {
  answers = record {
    line = (
        let gone : length (state g.J.Job.key_of c.args.world.now.core).cpus ≤ c.args.cpu = subst (λ n. n ≤ c.args.cpu) c.processors.ensures c.if-cpu-processors.true in
        no_hand _ c.args.cpu gone c.no_such.result c.no_such.ensures
        );
    stays = stays_same c.requires.world;
  };
}

pub returns-then-not-has_hand : goal.returns-then-not-has_hand
returns-then-not-has_hand g c = record {
  answers = record {
    line = (
        let there : c.args.cpu < length (state g.J.Job.key_of c.args.world.now.core).cpus = subst (λ n. c.args.cpu < n) c.processors.ensures c.if-cpu-processors.false in
        let w = state g.J.Job.key_of c.args.world.now.core in
        subst (λ l. IsHand w c.args.cpu l w) (sym c.not_offloadable.ensures) (not_offloadable w c.args.cpu there (sym c.has_hand.ensures ∙ c.if-not-has_hand.true))
        );
    stays = stays_same c.requires.world;
  };
}

pub returns-in_err-turn : goal.returns-in_err-turn
returns-in_err-turn g c = record {
  answers = record {
    line = search rules;
    stays = c.hand_turn.ensures.events.stays;
  };
}

pub returns : goal.returns
returns g c = record {
  answers = record {
    line = search rules;
    stays = c.hand_turn.ensures.events.stays;
  };
}
