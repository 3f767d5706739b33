use Rattle.std.proofs.Common.{◌∙◌, ◌≡◌, arith, length, refl, subst}
use Rattle.rcu_world.specs.GroupTurns.{Gives, Made, Takes, Then, Upto, look_group_events}
use Rattle.rcu_world.specs.Views.{state}
use Rattle.rcu_world.proofs.Drawing.{then_made}
use Rattle.rcu_world.proofs.Staying.{stays_then}
use Rattle.rcu_world.proofs.worlds.World.group_turn.Goals as goal

pub take_all-took-requires-send-J : goal.take_all-took-requires-send-J
take_all-took-requires-send-J g c κs within = c.type_bounds.send-J

pub take_all-took-requires-send-J-Receipt : goal.take_all-took-requires-send-J-Receipt
take_all-took-requires-send-J-Receipt g c κs within = c.type_bounds.send-J-Receipt

pub look_group-requires-send-J : goal.look_group-requires-send-J
look_group-requires-send-J g c κs within = c.type_bounds.send-J

pub look_group-requires-send-J-Receipt : goal.look_group-requires-send-J-Receipt
look_group-requires-send-J-Receipt g c κs within = c.type_bounds.send-J-Receipt

pub give_all-gave-requires-send-J : goal.give_all-gave-requires-send-J
give_all-gave-requires-send-J g c κs within = c.type_bounds.send-J

pub give_all-gave-requires-send-J-Receipt : goal.give_all-gave-requires-send-J-Receipt
give_all-gave-requires-send-J-Receipt g c κs within = c.type_bounds.send-J-Receipt

pub waiting-held-requires-send-J : goal.waiting-held-requires-send-J
waiting-held-requires-send-J g c κs within = c.type_bounds.send-J

pub waiting-held-requires-send-J-Receipt : goal.waiting-held-requires-send-J-Receipt
waiting-held-requires-send-J-Receipt g c κs within = c.type_bounds.send-J-Receipt

pub returns-clause-events : goal.returns-clause-events
returns-clause-events g c = record {
  ok = refl;
  made = let n = length (state g.J.Job.key_of c.args.self.now.core).cpus in
      let y = subst (λ m. Made (Upto (Gives c.args.group) m) (state g.J.Job.key_of c.look_group.new.self.core) (state g.J.Job.key_of c.give_all-gave.new.self.core) 0 c.give_all-gave.result) (c.look_group.ensures.events.stays.len ∙ c.take_all-took.ensures.events.stays.len) c.give_all-gave.ensures.events.made in
      then_made (Upto (Takes c.args.group) n) (Then (λ w es. es ≡ look_group_events c.args.group w) (Upto (Gives c.args.group) n)) _ _ _ c.take_all-took.result 0 0 c.give_all-gave.result _ _ (omega arith) (omega arith) c.take_all-took.ensures.events.made
      (then_made (λ w es. es ≡ look_group_events c.args.group w) (Upto (Gives c.args.group) n) _ _ _ 0 0 0 c.give_all-gave.result _ _ (omega arith) (omega arith) c.look_group.ensures.events.made y);
  stays = stays_then c.take_all-took.ensures.events.stays (stays_then c.look_group.ensures.events.stays c.give_all-gave.ensures.events.stays);
}
