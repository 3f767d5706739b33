use Rattle.std.proofs.Common.{◌∙◌, arith, sym}
use Rattle.rcu_world_law.specs.Events.CoreEvent.{Join}
use Rattle.rcu_world.specs.GroupTurns.{Draws, WhereRoom, most_batches}
use Rattle.rcu_world.proofs.Drawing.{joined_made, takes_made, takes_none, then_made}
use Rattle.rcu_world.proofs.Staying.{stays_same, stays_then}
use Rattle.rcu_world.proofs.worlds.World.take.Goals as goal

pub returns-then-not-is_member-clause-events : goal.returns-then-not-is_member-clause-events
returns-then-not-is_member-clause-events g c = record {
  made = takes_none c.args.group c.args.cpu _ (sym c.is_member.ensures ∙ c.if-not-is_member.true);
  stays = stays_same c.requires.world;
}

pub returns-clause-events : goal.returns-clause-events
returns-clause-events g c = record {
  made = takes_made c.args.group c.args.cpu _ _ _ _ (sym c.is_member.ensures ∙ c.if-not-is_member.false)
      (then_made (WhereRoom (Join c.args.cpu)) (Draws c.args.cpu most_batches) _ _ _ 0 c.draw_some.result 0 0 _ _ (omega arith) (omega arith) (joined_made c.args.cpu c.join.result _ _ c.join.ensures.events.leads) c.draw_some.ensures.events.made);
  stays = stays_then c.join.ensures.events.stays c.draw_some.ensures.events.stays;
}

pub is_member-requires-send-J : goal.is_member-requires-send-J
is_member-requires-send-J g c κs within = c.type_bounds.send-J

pub is_member-requires-send-J-Receipt : goal.is_member-requires-send-J-Receipt
is_member-requires-send-J-Receipt g c κs within = c.type_bounds.send-J-Receipt

pub join-requires-send-J : goal.join-requires-send-J
join-requires-send-J g c κs within = c.type_bounds.send-J

pub join-requires-send-J-Receipt : goal.join-requires-send-J-Receipt
join-requires-send-J-Receipt g c κs within = c.type_bounds.send-J-Receipt

pub draw_some-requires-send-J : goal.draw_some-requires-send-J
draw_some-requires-send-J g c κs within = c.type_bounds.send-J

pub draw_some-requires-send-J-Receipt : goal.draw_some-requires-send-J-Receipt
draw_some-requires-send-J-Receipt g c κs within = c.type_bounds.send-J-Receipt

pub is_member-requires-after_bounds : goal.is_member-requires-after_bounds
is_member-requires-after_bounds g c κs within = (assumption, (c.requires.world, c.requires.there))
