use Rattle.rcu_world.proofs.Drawing.{looked_made}
use Rattle.std.proofs.Common.{refl}
use Rattle.rcu_world.proofs.Staying.{stays_by, stays_then}
use Rattle.rcu_world.proofs.worlds.World.look_group.Goals as goal

pub returns : goal.returns
returns g c = record {
  events = record {
    made = looked_made c.args.group _ _ _ c.perform.ensures.leads.1 c.perform-2.ensures.leads.1;
    stays = stays_then (stays_by c.perform.ensures.keeps (c.perform.ensures.rest refl)) (stays_by c.perform-2.ensures.keeps (c.perform-2.ensures.rest refl));
  };
}
