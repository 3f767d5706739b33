use Rattle.std.proofs.Common.{refl, ◌∙◌, arith, ap, sym, map, ◌++◌, ◌∷◌, []}
use Rattle.std.proofs.lemmas.List.{map-append}
use Rattle.rcu_world_law.specs.States.{opening_cpu}
use Rattle.rcu_world_processor.specs.Views.{AreGiven, seen}
use Rattle.rcu_world.specs.Barrings.{barrier}
use Rattle.rcu_world.specs.Worlds.{plan}
use Rattle.rcu_world.proofs.Opening.{bits_start, all_more, at_rest, bits_next, bits_end, opening_bits}
use denote.Param.{param}
use Rattle.rcu_world.proofs.Sizes.{processor_fits}
use Rattle.rcu_world.proofs.cores.Core+J+J+Receipt.new.Goals as goal

pub loop-cpu-init : goal.loop-cpu-init
loop-cpu-init g c = record {
  bits = bits_start c.args.shape.processors c.args.shape.offloadable c.new-offloadable.result.items c.new-offloadable.ensures.items;
  seen = rw (c.new-processors.ensures.items, c.new-offloadable.ensures.items) refl;
  given = rw c.new-processors.ensures.items tt;
}

pub loop-cpu-preserved : goal.loop-cpu-preserved
loop-cpu-preserved g c =
    let i = c.loop-cpu.invariant in
    record {
      bits = rw c.in_ok-push.ensures.items (i.bits ∙ bits_next c.args.shape.processors c.loop-cpu._cpu c.loop-cpu.mask c.loop-cpu.offloadable.items (omega arith));
      seen = rw (c.in_ok-push-2.ensures.items, c.in_ok-push.ensures.items)
          (map-append (seen g.J.Job.key_of) c.loop-cpu.processors.items (c.new.result ∷ []) ∙ ap (λ x. x ++ seen g.J.Job.key_of c.new.result ∷ []) i.seen
          ∙ ap (λ x. map opening_cpu c.loop-cpu.offloadable.items ++ x ∷ []) c.new.ensures.opens ∙ sym (map-append opening_cpu c.loop-cpu.offloadable.items _));
      given = rw c.in_ok-push-2.ensures.items (all_more (AreGiven g.J.Job.gives c.args.shape.qhimark) c.loop-cpu.processors.items c.new.result i.given c.new.ensures.given);
    }

pub returns-clause-opens : goal.returns-clause-opens
returns-clause-opens g c =
    let b = bits_end c.args.shape.processors c.loop-cpu._cpu c.loop-cpu.mask c.args.shape.offloadable c.loop-cpu.offloadable.items c.loop-cpu-test.false c.loop-cpu.invariant.bits in
    at_rest (plan c.args.shape) c.args.shape.processors _ _ _ _ _ b c.new-2.ensures
    (c.loop-cpu.invariant.seen ∙ opening_bits c.args.shape.processors c.args.shape.offloadable _ b) (ap (map barrier) c.new-3.ensures.items) c.new-4.ensures.items

pub returns-clause-given : goal.returns-clause-given
returns-clause-given g c = c.loop-cpu.invariant.given

pub new-requires-send-J : goal.new-requires-send-J
new-requires-send-J g c κs within = c.type_bounds.send-J

pub new-requires-send-J-Receipt : goal.new-requires-send-J-Receipt
new-requires-send-J-Receipt g c κs within = c.type_bounds.send-J-Receipt

pub new-requires-after_bounds : goal.new-requires-after_bounds
new-requires-after_bounds g c κs within = processor_fits (param 0 g.row.J) (param 1 g.row.J-Receipt) assumption

pub drop-processors-requires-room-T-Destruct : goal.drop-processors-requires-room-T-Destruct
drop-processors-requires-room-T-Destruct g c κs within = processor_fits (param 0 g.row.J) (param 1 g.row.J-Receipt) assumption

pub from_residual-requires-in_err-push-2-room-F-From : goal.from_residual-requires-in_err-push-2-room-F-From
from_residual-requires-in_err-push-2-room-F-From g c κs within = processor_fits (param 0 g.row.J) (param 1 g.row.J-Receipt) assumption

pub drop-processors-requires-in_err-push-2-room-T-Destruct : goal.drop-processors-requires-in_err-push-2-room-T-Destruct
drop-processors-requires-in_err-push-2-room-T-Destruct g c κs within = processor_fits (param 0 g.row.J) (param 1 g.row.J-Receipt) assumption

pub new-requires-5-room-T-Destruct : goal.new-requires-5-room-T-Destruct
new-requires-5-room-T-Destruct g c κs within = processor_fits (param 0 g.row.J) (param 1 g.row.J-Receipt) assumption
