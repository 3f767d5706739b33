use Rattle.std.proofs.Common.{subst}
use Rattle.std.specs.Mem.{FitsInMemory}
use denote.Param.{param}
use denote.Param.Send.{sendable}
use denote.Builtin.{u64 as receipt}
use Rattle.rcu_part_group.specs.contracts.group.Group as group
use Rattle.rcu_part_hand.specs.contracts.hand.Hand as hand
use Rattle.rcu_part_processor.specs.contracts.processor.Processor as processor
use Rattle.test_parts.specs.Kept.{GroupsKeep, HandsKeep}
use Rattle.test_parts.proofs.Gathered.{of_the_whole}
use Rattle.test_parts.proofs.phases.player.run_phase.Goals as goal

pub join-near-requires-room-F-FnOnce : goal.join-near-requires-room-F-FnOnce
join-near-requires-room-F-FnOnce g c κs within = assumption

pub join-near-requires-room-G-FnOnce : goal.join-near-requires-room-G-FnOnce
join-near-requires-room-G-FnOnce g c κs within = assumption

pub join-near-requires-room-G-FnOnce-2 : goal.join-near-requires-room-G-FnOnce-2
join-near-requires-room-G-FnOnce-2 g c κs within = assumption

pub join-near-requires-room-F-Destruct : goal.join-near-requires-room-F-Destruct
join-near-requires-room-F-Destruct g c κs within = assumption

pub join-near-requires-room-G-Destruct : goal.join-near-requires-room-G-Destruct
join-near-requires-room-G-Destruct g c κs within = assumption

pub join-near-requires-room-G-Destruct-2 : goal.join-near-requires-room-G-Destruct-2
join-near-requires-room-G-Destruct-2 g c κs within = assumption

pub join-near-requires-after_bounds : goal.join-near-requires-after_bounds
join-near-requires-after_bounds g c κs within =
    let p : FitsInMemory (processor.the_row (param 0 g.row.J) receipt) = assumption in
    let q : FitsInMemory (group.the_row (param 0 g.row.J) receipt) = assumption in
    let h : FitsInMemory (hand.the_row (param 0 g.row.J) receipt) = assumption in
    let send = c.type_bounds.send-J in let sync = c.type_bounds.sync-R in ((p, ((search sendable, search sendable), (search sendable, search sendable))), (q, (h, ((search sendable, search sendable), (search sendable, search sendable)))))

pub returns : goal.returns
returns g c = let far = c.join-near.ensures.second in
    of_the_whole (λ new. (new.callers, new.center)) _ _ _ c.join-near.result.0 c.gather.result c.gather.ensures.near c.gather.ensures.far c.join-near.ensures.first
    (λ new near is. let taken = subst (λ t. GroupsKeep c.args.company.groups.items t.0.items × HandsKeep g.J.Job.key_of g.J.Job.gives c.args.company.hands.items t.1.items) is far in record {
      processors = near.0;
      driver = near.1;
      control = near.2;
      groups = taken.0;
      hands = taken.1;
    })
