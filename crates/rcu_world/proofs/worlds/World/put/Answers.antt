use Rattle.std.proofs.Common.{refl}
use Rattle.rcu_world.proofs.Staying.{stays_by}
use Rattle.rcu_world.proofs.Leading.{leads_nothing}
use Rattle.rcu_world.proofs.worlds.World.put.Goals as goal

pub attempt-requires-send-J : goal.attempt-requires-send-J
attempt-requires-send-J g c κs within = c.type_bounds.send-J

pub attempt-requires-send-J-Receipt : goal.attempt-requires-send-J-Receipt
attempt-requires-send-J-Receipt g c κs within = c.type_bounds.send-J-Receipt

pub returns-in-Ok : goal.returns-in-Ok
returns-in-Ok g c = record {
  events = record {
    leads = c.in-Ok.ensures.leads.1;
    stays = stays_by c.attempt.ensures.keeps (c.attempt.ensures.rest refl);
  };
}

pub returns-in-Err : goal.returns-in-Err
returns-in-Err g c = record {
  events = record {
    leads = leads_nothing _ _ c.in-Err.ensures.err;
    stays = stays_by c.attempt.ensures.keeps (c.attempt.ensures.rest refl);
  };
}
