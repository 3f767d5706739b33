use Rattle.std.specs.Mem.{FitsInMemory}
use denote.Param.{param}
use Rattle.rcu_part_lists.proofs.Sizes.{in_struct}
use borrow.Author.Rules.{scaled_Fits}
use Rattle.std.proofs.Common.{◌≡◌, ◌<◌, List, get_or, length, ◌∙◌, ap, sym, subst, arith}
use Rattle.rcu_part_group.specs.Each.{Sums}
use Rattle.rcu_part_group.specs.Groups.{TakesFrom}
use Rattle.rcu_part_group.specs.declared.members.GroupMember.{GroupMember}
use Rattle.rcu_part_group.specs.contracts.members.GroupMembers as row
use Rattle.rcu_part_group.proofs.GroupLists.{SumsSoFar, partly_long, sums_cons, sums_none, sums_next, sums_end, written}
use Rattle.rcu_part_group.proofs.GroupTurns.{takes_few, takes_from}
use Rattle.rcu_part_group.proofs.members.GroupMembers.take_in.Goals as goal

pub loop-group_member-preserved : goal.loop-group_member-preserved
loop-group_member-preserved g c = let l = c.loop-group_member in let e = c.take_in-took.ensures in let m = get_or l.group_member-items l.group_member-index c.group_member-item.result in let n = c.take_in-took.new.self in let olds = c.args.self.now.others.items in
    let low : l.group_member-index < length l.group_member-items = omega (arith, l.auto.group_member-items, c.loop-group_member-test.true) in
    sums_next TakesFrom l.took c.take_in-took.result l.group_member-index olds l.group_member-items c.group_member-item.result (record m { member = n }) (takes_few c.take_in-took.result m.member n e.takes) low (takes_from c.take_in-took.result m n e.lanes e.takes) l.invariant

pub returns : goal.returns
returns g c = let l = c.loop-group_member in let s = c.args.self.now in let old = s.others in
    let same : length l.group_member-items ≡ length old.items = l.auto.group_member-items ∙ ap length c.deref_mut-group_member-items.ensures.value in
    let e = c.take_in-first.ensures in let n = c.take_in-first.new.self in
    sums_cons TakesFrom c.take_in-first.result l.took s.first (record s.first { member = n }) old.items _ (takes_from c.take_in-first.result s.first n e.lanes e.takes)
    (subst (λ (news : List (GroupMember g.row.J.Denot)). Sums TakesFrom l.took old.items news) (sym (written l.group_member-items old.items old.len same old.ok.0))
    (sums_end TakesFrom l.took l.group_member-index old.items l.group_member-items (omega (arith, l.auto.group_member-items, c.loop-group_member-test.false)) l.invariant))

pub take_in-first-requires : goal.take_in-first-requires
take_in-first-requires g c = let h : FitsInMemory (row.the_row (param 0 g.row.J)) = assumption in in_struct _ _ _ (in_struct _ _ _ h)

pub loop-group_member-init : goal.loop-group_member-init
loop-group_member-init g c = let olds = c.args.self.now.others.items in
    subst (λ (ms : List (GroupMember g.row.J.Denot)). SumsSoFar TakesFrom 0 0 olds ms) (sym c.deref_mut-group_member-items.ensures.value) (sums_none TakesFrom olds)

pub take_in-took-requires : goal.take_in-took-requires
take_in-took-requires g c = let h : FitsInMemory (row.the_row (param 0 g.row.J)) = assumption in in_struct _ _ _ (in_struct _ _ _ h)

-- a sum of small numbers, of no more members than there can be
pub overflow_add-took : goal.overflow_add-took
overflow_add-took g c =
    let l = c.loop-group_member in let i = l.invariant in let olds = c.args.self.now.others.items in
    let m = get_or l.group_member-items l.group_member-index c.group_member-item.result in
    let few = takes_few c.take_in-took.result m.member c.take_in-took.new.self c.take_in-took.ensures.takes in
    let long = partly_long TakesFrom i.each olds l.group_member-items i.elements in
    omega arith

pub overflow_add-result : goal.overflow_add-result
overflow_add-result g c =
    let l = c.loop-group_member in let i = l.invariant in let s = c.args.self.now in
    let few = takes_few c.take_in-first.result s.first.member c.take_in-first.new.self c.take_in-first.ensures.takes in
    let long = partly_long TakesFrom i.each s.others.items l.group_member-items i.elements in
    omega arith

pub offset_bounds-group_member-items-group_member-index : goal.offset_bounds-group_member-items-group_member-index
offset_bounds-group_member-items-group_member-index g c = scaled_Fits c.loop-group_member.group_member-index (length c.deref_mut-group_member-items.result.now) _ c.loop-group_member-test.true assumption
