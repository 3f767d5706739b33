use Rattle.std.proofs.Common.{refl}
use Rattle.rcu_part_group.proofs.GroupTurns.{same_group}
use Rattle.rcu_part_group.specs.Groups.{SameGroup}
use Rattle.rcuo_replay.proofs.commands.group.Goals as goal
use Rattle.rcu_lemmas.proofs.Zips.{zip_same}
use Rattle.rcu_lemmas.proofs.Changed.{zip_changed}

pub returns-in_default-clause-same : goal.returns-in_default-clause-same
returns-in_default-clause-same g c = zip_same (λ x y. SameGroup x.state y.state) (λ x. same_group x.state) c.args.groups.now.items

pub returns-clause-line : goal.returns-clause-line
returns-clause-line g c = let found = c.in-Some.ensures.found in (
  refl,
  (
    c.in-Some.place,
    record {
      x = c.index_mut.result.now;
      y = c.turn-turn.new.self;
      there = found.0;
      old = c.index_mut.ensures.value;
      new = refl;
      by = (found.1 c.index_mut.result.now c.index_mut.ensures.value, (c.turn-turn.result, refl, refl, c.turn-turn.ensures.turn));
    },
  ),
)

pub returns-clause-same : goal.returns-clause-same
returns-clause-same g c =
    zip_changed (λ x y. SameGroup x.state y.state) (λ x. same_group x.state) c.args.groups.now.items c.in-Some.place c.index_mut.result.now c.turn-turn.new.self c.in-Some.ensures.found.0 c.index_mut.ensures.value c.turn-turn.ensures.same

pub place_of_group-requires-send-J : goal.place_of_group-requires-send-J
place_of_group-requires-send-J g c κs within = c.type_bounds.send-J

pub place_of_group-requires-send-J-Receipt : goal.place_of_group-requires-send-J-Receipt
place_of_group-requires-send-J-Receipt g c κs within = c.type_bounds.send-J-Receipt

pub place_of_group-requires-after_bounds : goal.place_of_group-requires-after_bounds
place_of_group-requires-after_bounds g c κs within = assumption

pub turn-turn-requires-send-J : goal.turn-turn-requires-send-J
turn-turn-requires-send-J g c κs within = c.type_bounds.send-J

pub turn-turn-requires-send-J-Receipt : goal.turn-turn-requires-send-J-Receipt
turn-turn-requires-send-J-Receipt g c κs within = c.type_bounds.send-J-Receipt

pub turn-turn-requires-after_bounds : goal.turn-turn-requires-after_bounds
turn-turn-requires-after_bounds g c κs within = assumption
