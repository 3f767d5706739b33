use Rattle.std.proofs.Common.{refl}
use Rattle.rcu_world_law.specs.Events.CoreEvent.{Return}
use Rattle.rcu_world.specs.Views.{state}
use Rattle.rcu_world.proofs.Leading.{leads_one}
use Rattle.rcu_world.proofs.Absences.{may_return}
use Rattle.rcu_world.proofs.Staying.{stays_by}
use Rattle.rcu_world.proofs.worlds.World.come_back.Goals as goal

pub returns : goal.returns
returns g c = record {
  events = (
      let w = state g.J.Job.key_of c.args.self.now.core in
      record {
        leads = leads_one w _ (Return c.args.cpu) (may_return w c.args.cpu c.requires.there c.requires.away) c.perform.ensures.leads.1;
        stays = stays_by c.perform.ensures.keeps (c.perform.ensures.rest refl);
      }
      );
}

pub perform-requires-send-J : goal.perform-requires-send-J
perform-requires-send-J g c κs within = c.type_bounds.send-J

pub perform-requires-send-J-Receipt : goal.perform-requires-send-J-Receipt
perform-requires-send-J-Receipt g c κs within = c.type_bounds.send-J-Receipt

pub perform-requires-after_bounds : goal.perform-requires-after_bounds
perform-requires-after_bounds g c κs within = (assumption, (c.requires.world, refl))
