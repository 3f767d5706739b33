use Rattle.std.proofs.Common.{◌∙◌, refl, arith}
use Rattle.rcu_world.specs.Turns.{counts_for}
use Rattle.rcu_world.proofs.Leading.{leads_none, leads_upto}
use Rattle.std.proofs.lemmas.List.{length-map}
use Rattle.rcu_world_processor.specs.Views.{seen}
use Rattle.rcu_world.proofs.Wholes.{leads_all}
use Rattle.rcu_world.proofs.Staying.{stays_by, stays_same, stays_then}
use Rattle.rcu_world.proofs.worlds.World.count_all.Goals as goal

pub loop-cpu-preserved : goal.loop-cpu-preserved
loop-cpu-preserved g c =
    let i = c.loop-cpu.invariant in
    record {
      leads = leads_upto (counts_for c.args.barrier) c.loop-cpu.cpu _ _ _ i.leads c.perform.ensures.leads.1;
      stays = stays_then i.stays (stays_by c.perform.ensures.keeps (c.perform.ensures.rest refl));
    }

pub returns : goal.returns
returns g c = record {
  events = record {
    leads = leads_all (counts_for c.args.barrier) c.loop-cpu.cpu _ _ _ (omega (arith, length-map c.args.self.now.core.processors.items (seen g.J.Job.key_of), c.args.self.now.core.processors.ok.0)) c.loop-cpu.invariant.leads;
    stays = c.loop-cpu.invariant.stays;
  };
}

pub loop-cpu-init : goal.loop-cpu-init
loop-cpu-init g c = record { leads = leads_none (counts_for c.args.barrier) _; stays = stays_same c.requires }
