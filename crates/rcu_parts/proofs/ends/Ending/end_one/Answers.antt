use Rattle.std.proofs.Common.{◌≡◌, ◌∙◌, Option, None, sym, subst}
use Rattle.std.specs.Mem.{FitsInMemory}
use denote.Param.{param}
use Rattle.rcu_part_close.specs.Parts.{HandPart}
use Rattle.rcu_parts.specs.AtClose.{cpu_part}
use Rattle.rcu_parts.specs.Ending.{EndsOne, board_at}
use Rattle.rcu_part_hand.specs.Hands.{hand_board}
use Rattle.rcu_part_group.specs.contracts.members.GroupMember as group_member_row
use Rattle.rcu_part_hand.specs.contracts.hand.Hand as hand_row
use Rattle.rcu_part_processor.specs.contracts.processor.Processor as row
use Rattle.rcu_parts.proofs.OneByOne.{first_board, first_has_hand, first_member, first_of_hands, first_room, may_end, none_for, one_for, others_are, ready_alone, ready_with, same_after, some_hand, some_member, some_room}
use Rattle.rcu_parts.proofs.ends.Ending.end_one.Goals as goal

pub end_alone-requires-after_bounds : goal.end_alone-requires-after_bounds
end_alone-requires-after_bounds g c κs within =
    let h : FitsInMemory (row.the_row (param 0 g.row.J) (param 1 g.row.J-Receipt)) = assumption in
    let r = c.requires.ready in (
      h,
      (
        may_end r.0 c.args.processor r.1 _ _ _ c.args.self.now r.2,
        (
          (sym c.is_offloadable.ensures ∙ c.if-not-is_offloadable.true),
          (
            first_board r.0 c.args.processor r.1 _ _ _ c.args.self.now r.2,
            first_room r.0 c.args.processor r.1 _ _ _ _ c.take_first-room.result c.args.self.now None r.2 c.take_first-room.ensures (none_for c.args.processor _ (sym c.is_offloadable.ensures ∙ c.if-not-is_offloadable.true)),
          ),
        ),
      ),
    )

pub returns-then-not-is_offloadable-clause-ready : goal.returns-then-not-is_offloadable-clause-ready
returns-then-not-is_offloadable-clause-ready g c k rest i =
    ready_alone k c.args.processor rest _ _ _ _ c.take_first-room.result c.args.self.now c.end_alone.new.self i c.end_alone.ensures.goes_on c.take_first-room.ensures (sym c.is_offloadable.ensures ∙ c.if-not-is_offloadable.true)

pub end_with_hand-requires-after_bounds : goal.end_with_hand-requires-after_bounds
end_with_hand-requires-after_bounds g c κs within =
    let h : FitsInMemory (row.the_row (param 0 g.row.J) (param 1 g.row.J-Receipt)) = assumption in
    let m : FitsInMemory (group_member_row.the_row (param 0 g.row.J)) = assumption in
    let q : FitsInMemory (hand_row.the_row (param 0 g.row.J) (param 1 g.row.J-Receipt)) = assumption in
    let r = c.requires.ready in
    let p = c.args.processor in
    let x = c.args.self.now in
    let i = r.2 in (
      h,
      (
        m,
        (
          q,
          (
            may_end r.0 p r.1 _ _ _ x i,
            (
              first_board r.0 p r.1 _ _ _ x i,
              (
                first_of_hands (λ d. hand_board d.state ≡ board_at x) c.take_first-hand.result _ _ c.take_first-hand.ensures i.hands_at,
                (
                  first_member r.0 p r.1 c.take_first-member.result _ _ _ _ x i (sym c.is_offloadable.ensures ∙ c.if-not-is_offloadable.false) c.take_first-member.ensures,
                  (
                    first_has_hand r.0 p r.1 c.take_first-member.result _ _ c.take_first-hand.result _ _ _ x i c.take_first-member.ensures c.take_first-hand.ensures,
                    first_room r.0 p r.1 _ _ _ _ c.take_first-room.result x _ i c.take_first-room.ensures (one_for p c.take_first-hand.result _ _ (sym c.is_offloadable.ensures ∙ c.if-not-is_offloadable.false) c.take_first-hand.ensures),
                  ),
                ),
              ),
            ),
          ),
        ),
      ),
    )

pub returns-clause-ready : goal.returns-clause-ready
returns-clause-ready g c k rest i =
    ready_with k c.args.processor rest c.take_first-member.result _ _ c.take_first-hand.result _ _ _ _ c.take_first-room.result c.args.self.now c.end_with_hand.new.self i c.end_with_hand.ensures.goes_on
    c.take_first-room.ensures (sym c.is_offloadable.ensures ∙ c.if-not-is_offloadable.false) c.take_first-member.ensures c.take_first-hand.ensures

pub is_offloadable-requires : goal.is_offloadable-requires
is_offloadable-requires g c = assumption

pub take_first-room-requires : goal.take_first-room-requires
take_first-room-requires g c = let r = c.requires.ready in some_room r.0 c.args.processor r.1 _ _ _ c.args.self.now r.2

pub end_alone-requires-send-J : goal.end_alone-requires-send-J
end_alone-requires-send-J g c κs within = c.type_bounds.send-J

pub end_alone-requires-send-J-Receipt : goal.end_alone-requires-send-J-Receipt
end_alone-requires-send-J-Receipt g c κs within = c.type_bounds.send-J-Receipt

pub returns-then-not-is_offloadable-clause-board : goal.returns-then-not-is_offloadable-clause-board
returns-then-not-is_offloadable-clause-board g c = c.end_alone.ensures.goes_on.board

pub returns-then-not-is_offloadable-clause-hands : goal.returns-then-not-is_offloadable-clause-hands
returns-then-not-is_offloadable-clause-hands g c = same_after c.args.processor _ (sym c.is_offloadable.ensures ∙ c.if-not-is_offloadable.true)

pub returns-then-not-is_offloadable-clause-ends : goal.returns-then-not-is_offloadable-clause-ends
returns-then-not-is_offloadable-clause-ends g c = let p = c.args.processor in subst (λ (h : Option (HandPart g.row.J.Denot g.row.J-Receipt.Denot)). EndsOne g.J.Job.key_of g.J.Job.gives (cpu_part p h) c.args.self.now c.end_alone.new.self)
    (sym (none_for p c.args.hands.now.items (sym c.is_offloadable.ensures ∙ c.if-not-is_offloadable.true))) c.end_alone.ensures.ends

pub take_first-member-requires : goal.take_first-member-requires
take_first-member-requires g c = let r = c.requires.ready in some_member r.0 c.args.processor r.1 _ _ _ c.args.self.now r.2 (sym c.is_offloadable.ensures ∙ c.if-not-is_offloadable.false)

pub take_first-hand-requires : goal.take_first-hand-requires
take_first-hand-requires g c = let r = c.requires.ready in some_hand r.0 c.args.processor r.1 _ _ _ _ _ c.args.self.now r.2 c.take_first-member.ensures

pub end_with_hand-requires-send-J : goal.end_with_hand-requires-send-J
end_with_hand-requires-send-J g c κs within = c.type_bounds.send-J

pub end_with_hand-requires-send-J-Receipt : goal.end_with_hand-requires-send-J-Receipt
end_with_hand-requires-send-J-Receipt g c κs within = c.type_bounds.send-J-Receipt

pub returns-clause-board : goal.returns-clause-board
returns-clause-board g c = c.end_with_hand.ensures.goes_on.board

pub returns-clause-hands : goal.returns-clause-hands
returns-clause-hands g c = others_are c.args.processor c.take_first-hand.result _ _ (sym c.is_offloadable.ensures ∙ c.if-not-is_offloadable.false) c.take_first-hand.ensures

pub returns-clause-ends : goal.returns-clause-ends
returns-clause-ends g c = let p = c.args.processor in subst (λ (h : Option (HandPart g.row.J.Denot g.row.J-Receipt.Denot)). EndsOne g.J.Job.key_of g.J.Job.gives (cpu_part p h) c.args.self.now c.end_with_hand.new.self)
    (sym (one_for p c.take_first-hand.result c.args.hands.now.items _ (sym c.is_offloadable.ensures ∙ c.if-not-is_offloadable.false) c.take_first-hand.ensures)) c.end_with_hand.ensures.ends
