use Rattle.std.specs.Mem.{FitsInMemory}
use denote.Param.{param}
use Rattle.rcu_part_lists.proofs.Sizes.{in_struct}
use borrow.Author.Rules.{scaled_Fits}
use Rattle.std.proofs.Common.{◌≡◌, ◌<◌, ◌≤◌, zero, List, get_or, length, ◌∙◌, ap, sym, subst, arith}
use Rattle.rcu_part_group.specs.Each.{Sums}
use Rattle.rcu_part_group.specs.GroupLaw.{relay_of}
use Rattle.rcu_part_group.specs.Groups.{GivesTo}
use Rattle.rcu_part_group.specs.declared.members.GroupMember.{GroupMember}
use Rattle.rcu_part_group.specs.contracts.members.GroupMembers as row
use Rattle.rcu_part_group.proofs.GroupLists.{SumsSoFar, behind, partly_long, partly_rest, sums_cons, sums_none, sums_next, sums_end, written}
use Rattle.rcu_part_group.proofs.GroupTurns.{gives_few, gives_to}
use Rattle.rcu_part_group.proofs.members.GroupMembers.give.Goals as goal

pub loop-group_member-preserved : goal.loop-group_member-preserved
loop-group_member-preserved g c =
    let l = c.loop-group_member in let i = l.invariant in let e = c.give-gave.ensures in let m = get_or l.group_member-items l.group_member-index c.group_member-item.result in let n = c.give-gave.new.self in let s = c.args.self.now in let olds = s.others.items in
    let loads : GroupMember g.row.J.Denot → Type 0 = λ x. length (relay_of x).out ≤ c.args.blimit in
    let low : l.group_member-index < length l.group_member-items = omega (arith, l.auto.group_member-items, c.loop-group_member-test.true) in
    let before : l.group_member-index < length olds = omega (arith, low, partly_long (GivesTo c.args.blimit) i.each olds l.group_member-items i.elements) in
    let same : get_or olds l.group_member-index c.group_member-item.result ≡ m = sym (partly_rest (GivesTo c.args.blimit) i.each olds l.group_member-items l.group_member-index c.group_member-item.result (omega (arith, i.many)) i.elements) in
    sums_next (GivesTo c.args.blimit) l.gave c.give-gave.result l.group_member-index olds l.group_member-items c.group_member-item.result (record m { member = n }) (gives_few c.args.blimit c.give-gave.result m.member n e.gives) low
    (gives_to c.args.blimit c.give-gave.result m n e.lanes e.gives e.some (subst loads same (behind loads s.first olds c.requires.loaded l.group_member-index c.group_member-item.result before))) i

pub returns : goal.returns
returns g c = let l = c.loop-group_member in let s = c.args.self.now in let old = s.others in
    let same : length l.group_member-items ≡ length old.items = l.auto.group_member-items ∙ ap length c.deref_mut-group_member-items.ensures.value in
    let e = c.give-first.ensures in let n = c.give-first.new.self in
    sums_cons (GivesTo c.args.blimit) c.give-first.result l.gave s.first (record s.first { member = n }) old.items _ (gives_to c.args.blimit c.give-first.result s.first n e.lanes e.gives e.some (c.requires.loaded zero s.first (omega arith)))
    (subst (λ (news : List (GroupMember g.row.J.Denot)). Sums (GivesTo c.args.blimit) l.gave old.items news) (sym (written l.group_member-items old.items old.len same old.ok.0))
    (sums_end (GivesTo c.args.blimit) l.gave l.group_member-index old.items l.group_member-items (omega (arith, l.auto.group_member-items, c.loop-group_member-test.false)) l.invariant))

pub give-first-requires : goal.give-first-requires
give-first-requires g c = let h : FitsInMemory (row.the_row (param 0 g.row.J)) = assumption in
    in_struct _ _ _ (in_struct _ _ _ h)

pub loop-group_member-init : goal.loop-group_member-init
loop-group_member-init g c = let olds = c.args.self.now.others.items in
    subst (λ (ms : List (GroupMember g.row.J.Denot)). SumsSoFar (GivesTo c.args.blimit) 0 0 olds ms) (sym c.deref_mut-group_member-items.ensures.value) (sums_none (GivesTo c.args.blimit) olds)

pub give-gave-requires : goal.give-gave-requires
give-gave-requires g c = let h : FitsInMemory (row.the_row (param 0 g.row.J)) = assumption in in_struct _ _ _ (in_struct _ _ _ h)

-- a sum of small numbers, of no more members than there can be
pub overflow_add-gave : goal.overflow_add-gave
overflow_add-gave g c =
    let l = c.loop-group_member in let i = l.invariant in let olds = c.args.self.now.others.items in
    let m = get_or l.group_member-items l.group_member-index c.group_member-item.result in
    let few = gives_few c.args.blimit c.give-gave.result m.member c.give-gave.new.self c.give-gave.ensures.gives in
    let long = partly_long (GivesTo c.args.blimit) i.each olds l.group_member-items i.elements in
    omega arith

pub overflow_add-result : goal.overflow_add-result
overflow_add-result g c =
    let l = c.loop-group_member in let i = l.invariant in let s = c.args.self.now in
    let few = gives_few c.args.blimit c.give-first.result s.first.member c.give-first.new.self c.give-first.ensures.gives in
    let long = partly_long (GivesTo c.args.blimit) i.each s.others.items l.group_member-items i.elements in
    omega arith

pub offset_bounds-group_member-items-group_member-index : goal.offset_bounds-group_member-items-group_member-index
offset_bounds-group_member-items-group_member-index g c = scaled_Fits c.loop-group_member.group_member-index (length c.deref_mut-group_member-items.result.now) _ c.loop-group_member-test.true assumption
