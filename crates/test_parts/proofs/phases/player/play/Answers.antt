use Rattle.rcu_lists.proofs.Outcomes.{if_ok_never}
use Rattle.std.specs.Mem.{FitsInMemory}
use denote.Param.{param}
use denote.Param.Send.{sendable}
use denote.Builtin.{u64 as receipt}
use Rattle.rcu_part_group.specs.contracts.group.Group as group
use Rattle.rcu_part_hand.specs.contracts.hand.Hand as hand
use Rattle.rcu_part_processor.specs.contracts.processor.Processor as processor
use Rattle.test_parts.proofs.Keeping.{stay_same_parts, stay_sound_parts}
use Rattle.test_parts.proofs.phases.player.play.Goals as goal

pub run_phases-requires-after_bounds : goal.run_phases-requires-after_bounds
run_phases-requires-after_bounds g c κs within =
    let p : FitsInMemory (processor.the_row (param 0 g.row.J) receipt) = assumption in
    let q : FitsInMemory (group.the_row (param 0 g.row.J) receipt) = assumption in
    let h : FitsInMemory (hand.the_row (param 0 g.row.J) receipt) = assumption in
    (p, (q, h))

pub close-requires-clause-parts : goal.close-requires-clause-parts
close-requires-clause-parts g c κs within = let key_of = g.J.Job.key_of in let gives = g.J.Job.gives in
    let p : FitsInMemory (processor.the_row (param 0 g.row.J) receipt) = assumption in
    let q : FitsInMemory (group.the_row (param 0 g.row.J) receipt) = assumption in
    let h : FitsInMemory (hand.the_row (param 0 g.row.J) receipt) = assumption in
    let old = c.args.parts in let new = c.dismiss-ended.result.0 in let from = c.assemble-company.ensures in let to = c.dismiss-ended.ensures in let kept = c.in_ok-run_phases.ensures in
    let same = stay_same_parts key_of gives old new c.assemble-company.result c.in_ok-run_phases.field-0 from to kept in
    (p, (q, (h, c.same_parts.ensures.one old new same c.requires.parts)))

pub returns : goal.returns
returns g c = record {
  ended = c.dismiss-ended.result.0;
  same = stay_same_parts g.J.Job.key_of g.J.Job.gives c.args.parts c.dismiss-ended.result.0 c.assemble-company.result c.in_ok-run_phases.field-0 c.assemble-company.ensures c.dismiss-ended.ensures c.in_ok-run_phases.ensures;
  closes = c.in-Ok.ensures.closes (stay_sound_parts g.J.Job.key_of g.J.Job.gives c.args.parts c.dismiss-ended.result.0 c.assemble-company.result c.in_ok-run_phases.field-0 c.assemble-company.ensures c.dismiss-ended.ensures c.in_ok-run_phases.ensures c.requires.sound);
}

pub run_phases-requires-send-J : goal.run_phases-requires-send-J
run_phases-requires-send-J g c κs within = assumption

pub run_phases-requires-sync-R : goal.run_phases-requires-sync-R
run_phases-requires-sync-R g c κs within = c.type_bounds.sync-R

pub returns-in_err-run_phases : goal.returns-in_err-run_phases
returns-in_err-run_phases g c = if_ok_never _ _ c.from_residual.ensures

pub close-requires-send-J : goal.close-requires-send-J
close-requires-send-J g c κs within = assumption

pub close-requires-send-J-Receipt : goal.close-requires-send-J-Receipt
close-requires-send-J-Receipt g c κs within = search sendable

pub drop-requires-room-T-Destruct : goal.drop-requires-room-T-Destruct
drop-requires-room-T-Destruct g c κs within = assumption

pub drop-requires-in_default-3-room-T-Destruct : goal.drop-requires-in_default-3-room-T-Destruct
drop-requires-in_default-3-room-T-Destruct g c κs within = assumption

pub drop-requires-in_default-4-room-T-Destruct : goal.drop-requires-in_default-4-room-T-Destruct
drop-requires-in_default-4-room-T-Destruct g c κs within = assumption
