use Rattle.std.proofs.Common.{rules, ap}
use Rattle.rcu_world_law.specs.States.{Cpu}
use Rattle.rcu_world_processor.specs.Views.{seen}
use Rattle.rcu_world_processor.proofs.modes.WorldProcessor+J+J+Receipt.settle.Goals as goal

pub returns : goal.returns
returns g c = record {
  step = record {
    made = ap {B = Cpu} (λ m. record (seen g.J.Job.key_of c.args.self.now) { mode = m }) c.settled-self.ensures;
    given = search rules;
  };
}
