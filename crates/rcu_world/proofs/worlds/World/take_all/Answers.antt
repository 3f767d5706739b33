use Rattle.std.proofs.Common.{◌<◌, ◌∙◌, arith, refl, subst, sym}
use Rattle.rcu_world.specs.GroupTurns.{Takes}
use Rattle.rcu_world.specs.Views.{state}
use Rattle.rcu_world.proofs.Drawing.{upto_more, upto_none}
use Rattle.std.proofs.lemmas.List.{length-map}
use Rattle.rcu_world_processor.specs.Views.{seen}
use Rattle.rcu_world.proofs.Wholes.{made_all}
use Rattle.rcu_world.proofs.Places.{steps_on}
use Rattle.rcu_world.proofs.Staying.{stays_same, stays_then}
use Rattle.rcu_world.proofs.worlds.World.take_all.Goals as goal

pub loop-cpu-init : goal.loop-cpu-init
loop-cpu-init g c = record {
  made = upto_none (Takes c.args.group) (state g.J.Job.key_of c.args.self.now.core);
  most = omega arith;
  stays = stays_same c.requires;
}

pub loop-cpu-preserved : goal.loop-cpu-preserved
loop-cpu-preserved g c =
    let i = c.loop-cpu.invariant in
    record {
      made = upto_more (Takes c.args.group) c.loop-cpu.cpu _ _ _ c.loop-cpu.took c.take-drawn.result 0 0 _ _ refl (omega arith) i.made c.take-drawn.ensures.events.made;
      most = omega (arith, i.most, c.take-drawn.ensures.most);
      stays = stays_then i.stays c.take-drawn.ensures.events.stays;
    }

pub overflow_add-took : goal.overflow_add-took
overflow_add-took g c = omega (arith, c.loop-cpu.invariant.most, c.take-drawn.ensures.most, c.requires.fit.few, length-map c.args.self.now.core.processors.items (seen g.J.Job.key_of), c.args.self.now.core.processors.ok.0)

pub returns : goal.returns
returns g c = record {
  events = record {
    made = made_all (Takes c.args.group) c.loop-cpu.cpu _ _ _ c.loop-cpu.took 0 (omega (arith, length-map c.args.self.now.core.processors.items (seen g.J.Job.key_of), c.args.self.now.core.processors.ok.0)) c.loop-cpu.invariant.made;
    stays = c.loop-cpu.invariant.stays;
  };
}

pub loop-cpu-smaller : goal.loop-cpu-smaller
loop-cpu-smaller g c = steps_on _ _ c.loop-cpu-test.true

pub take-drawn-requires-send-J : goal.take-drawn-requires-send-J
take-drawn-requires-send-J g c κs within = c.type_bounds.send-J

pub take-drawn-requires-send-J-Receipt : goal.take-drawn-requires-send-J-Receipt
take-drawn-requires-send-J-Receipt g c κs within = c.type_bounds.send-J-Receipt

pub take-drawn-requires-after_bounds : goal.take-drawn-requires-after_bounds
take-drawn-requires-after_bounds g c κs within =
    let w = c.args.self.now.core.processors in
    (assumption, (c.loop-cpu.invariant.stays.kept, subst (λ n. c.loop-cpu.cpu < n) (c.len-cpu-end.ensures ∙ w.ok.0 ∙ sym (length-map w.items (seen g.J.Job.key_of)) ∙ sym c.loop-cpu.invariant.stays.len) c.loop-cpu-test.true))
