use Rattle.std.proofs.Common.{ap, refl}
use Rattle.rcu_world_law.specs.States.{State}
use Rattle.rcu_world.specs.Views.{state}
use denote.Param.{param}
use Rattle.rcu_world.proofs.Sizes.{processor_fits}
use Rattle.rcu_world.proofs.barrier_events.Core+J+J+Receipt.urge.Goals as goal

pub returns : goal.returns
returns g c = record {
  answers = record {
    step = (refl, ap {B = State} (λ x. record (state g.J.Job.key_of c.args.self.now) { cpus = x }) c.urge_all.ensures.urges, refl);
    given = c.urge_all.ensures.given c.args.self.now.qhimark;
  };
}

pub urge_all-requires-send-J : goal.urge_all-requires-send-J
urge_all-requires-send-J g c κs within = c.type_bounds.send-J

pub urge_all-requires-send-J-Receipt : goal.urge_all-requires-send-J-Receipt
urge_all-requires-send-J-Receipt g c κs within = c.type_bounds.send-J-Receipt

pub urge_all-requires-after_bounds : goal.urge_all-requires-after_bounds
urge_all-requires-after_bounds g c κs within = processor_fits (param 0 g.row.J) (param 1 g.row.J-Receipt) assumption
