use Rattle.rcu_world_law.specs.declared.who.Who.TheVariants as who
use Rattle.rcu_world_law.specs.Events.CoreEvent.{Look, Need}
use Rattle.rcu_world.specs.Turns.{where_enabled}
use Rattle.rcu_world.proofs.Leading.{leads_then}
use Rattle.std.proofs.Common.{refl}
use Rattle.rcu_world.proofs.Staying.{stays_by, stays_then}
use Rattle.rcu_world.proofs.worlds.World.look_own.Goals as goal

pub returns : goal.returns
returns g c = record {
  events = record {
    leads = leads_then (where_enabled (Look c.args.cpu)) (where_enabled (Need (who.Cpu c.args.cpu))) _ _ _ c.perform.ensures.leads.1 c.perform-2.ensures.leads.1;
    stays = stays_then (stays_by c.perform.ensures.keeps (c.perform.ensures.rest refl)) (stays_by c.perform-2.ensures.keeps (c.perform-2.ensures.rest refl));
  };
}
