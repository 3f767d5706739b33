use Rattle.std.proofs.Common.{length, arith}
use Rattle.std.specs.Mem.{FitsInMemory}
use Rattle.std.proofs.lemmas.List.{nil_from_length}
use denote.Param.{param}
use Rattle.rcu_part_group.specs.contracts.members.GroupMember as group_member_row
use Rattle.rcu_part_hand.specs.contracts.hand.Hand as hand_row
use Rattle.rcu_part_processor.specs.contracts.processor.Processor as row
use Rattle.rcu_parts.proofs.OneByOne.{all_ended, none_ended, now_first, one_more_ended}
use Rattle.rcu_parts.proofs.ends.Ending.end_each.Goals as goal

pub loop-processor-init : goal.loop-processor-init
loop-processor-init g c = none_ended g.J.Job.key_of g.J.Job.gives c.args.processors.items c.args.hands.items _ c.args.members.items c.args.rooms.items c.args.self.now c.into_iter-processor-iterator.ensures.into_iter_gives.0 c.requires.ready

pub next-requires-room-T-Destruct : goal.next-requires-room-T-Destruct
next-requires-room-T-Destruct g c κs within = let h : FitsInMemory (row.the_row (param 0 g.row.J) (param 1 g.row.J-Receipt)) = assumption in h

pub end_one-requires-clause-ready : goal.end_one-requires-clause-ready
end_one-requires-clause-ready g c κs within =
    let h : FitsInMemory (row.the_row (param 0 g.row.J) (param 1 g.row.J-Receipt)) = assumption in
    let m : FitsInMemory (group_member_row.the_row (param 0 g.row.J)) = assumption in
    let k : FitsInMemory (hand_row.the_row (param 0 g.row.J) (param 1 g.row.J-Receipt)) = assumption in
    let s = c.loop-processor.invariant in
    (h, (m, (k, (length s.ends, c.next.new.self.rest.items, now_first (length s.ends) _ c.in-Some.processor _ _ _ _ _ s.ready c.in-Some.ensures.steps.0))))

pub loop-processor-preserved : goal.loop-processor-preserved
loop-processor-preserved g c =
    let t = c.end_one.ensures in
    one_more_ended g.J.Job.key_of g.J.Job.gives c.args.processors.items c.args.hands.items c.in-Some.processor _ _ _ _ _ _ _ _ c.args.self.now c.loop-processor.self c.end_one.new.self c.loop-processor.invariant
    c.in-Some.ensures.steps.0 t.ready t.board t.hands t.ends

pub returns-clause-board : goal.returns-clause-board
returns-clause-board g c = c.loop-processor.invariant.board

pub returns-clause-at : goal.returns-clause-at
returns-clause-at g c = c.loop-processor.invariant.ready.at

pub returns-clause-ends : goal.returns-clause-ends
returns-clause-ends g c = all_ended g.J.Job.key_of g.J.Job.gives c.args.processors.items c.args.hands.items _ _ _ _ c.args.self.now c.loop-processor.self c.loop-processor.invariant
    (nil_from_length _ (let o = c.loop-processor.processor-iterator.rest.ok.0 in let n = c.in-None.ensures.steps.0 in omega (arith, o, n)))

pub into_iter-processor-iterator-requires-room-T-Destruct : goal.into_iter-processor-iterator-requires-room-T-Destruct
into_iter-processor-iterator-requires-room-T-Destruct g c κs within = assumption

pub end_one-requires-send-J : goal.end_one-requires-send-J
end_one-requires-send-J g c κs within = c.type_bounds.send-J

pub end_one-requires-send-J-Receipt : goal.end_one-requires-send-J-Receipt
end_one-requires-send-J-Receipt g c κs within = c.type_bounds.send-J-Receipt

pub drop-processor-iterator-requires-room-T-Destruct : goal.drop-processor-iterator-requires-room-T-Destruct
drop-processor-iterator-requires-room-T-Destruct g c κs within = assumption

pub drop-hands-requires-room-T-Destruct : goal.drop-hands-requires-room-T-Destruct
drop-hands-requires-room-T-Destruct g c κs within = assumption

pub drop-members-requires-room-T-Destruct : goal.drop-members-requires-room-T-Destruct
drop-members-requires-room-T-Destruct g c κs within = assumption
