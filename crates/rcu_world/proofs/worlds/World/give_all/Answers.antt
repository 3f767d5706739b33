use Rattle.std.proofs.Common.{◌<◌, ◌∙◌, arith, refl, subst, sym}
use Rattle.rcu_world.specs.GroupTurns.{Gives}
use Rattle.rcu_world.specs.Views.{state}
use Rattle.rcu_world.proofs.Drawing.{upto_more, upto_none}
use Rattle.std.proofs.lemmas.List.{length-map}
use Rattle.rcu_world_processor.specs.Views.{seen}
use Rattle.rcu_world.proofs.Wholes.{made_all}
use Rattle.rcu_world.proofs.Places.{steps_on}
use Rattle.rcu_world.proofs.Staying.{stays_same, stays_then}
use Rattle.rcu_world.proofs.worlds.World.give_all.Goals as goal

pub loop-cpu-init : goal.loop-cpu-init
loop-cpu-init g c = record {
  made = upto_none (Gives c.args.group) (state g.J.Job.key_of c.args.self.now.core);
  most = omega arith;
  stays = stays_same c.requires;
}

pub loop-cpu-preserved : goal.loop-cpu-preserved
loop-cpu-preserved g c =
    let i = c.loop-cpu.invariant in
    record {
      made = upto_more (Gives c.args.group) c.loop-cpu.cpu _ _ _ 0 0 c.loop-cpu.gave c.give-put.result _ _ (omega arith) refl i.made c.give-put.ensures.events.made;
      most = omega (arith, i.most, c.give-put.ensures.most);
      stays = stays_then i.stays c.give-put.ensures.events.stays;
    }

pub overflow_add-gave : goal.overflow_add-gave
overflow_add-gave g c = omega (arith, c.loop-cpu.invariant.most, c.give-put.ensures.most, c.requires.fit.few, length-map c.args.self.now.core.processors.items (seen g.J.Job.key_of), c.args.self.now.core.processors.ok.0)

pub returns : goal.returns
returns g c = record {
  events = record {
    made = made_all (Gives c.args.group) c.loop-cpu.cpu _ _ _ 0 c.loop-cpu.gave (omega (arith, length-map c.args.self.now.core.processors.items (seen g.J.Job.key_of), c.args.self.now.core.processors.ok.0)) c.loop-cpu.invariant.made;
    stays = c.loop-cpu.invariant.stays;
  };
}

pub loop-cpu-smaller : goal.loop-cpu-smaller
loop-cpu-smaller g c = steps_on _ _ c.loop-cpu-test.true

pub give-put-requires-send-J : goal.give-put-requires-send-J
give-put-requires-send-J g c κs within = c.type_bounds.send-J

pub give-put-requires-send-J-Receipt : goal.give-put-requires-send-J-Receipt
give-put-requires-send-J-Receipt g c κs within = c.type_bounds.send-J-Receipt

pub give-put-requires-after_bounds : goal.give-put-requires-after_bounds
give-put-requires-after_bounds g c κs within =
    let w = c.args.self.now.core.processors in
    (assumption, (c.loop-cpu.invariant.stays.kept, subst (λ n. c.loop-cpu.cpu < n) (c.len-cpu-end.ensures ∙ w.ok.0 ∙ sym (length-map w.items (seen g.J.Job.key_of)) ∙ sym c.loop-cpu.invariant.stays.len) c.loop-cpu-test.true))
