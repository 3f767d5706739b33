use Rattle.std.specs.Mem.{FitsInMemory}
use denote.Param.{param}
use Rattle.rcu_part_lists.proofs.Sizes.{in_struct}
use Rattle.std.proofs.Common.{length, ap, arith}
use Rattle.rcu_part_group.specs.Groups.{waiting_of}
use Rattle.rcu_part_group.proofs.GroupLists.{sum_next, sum_behind}
use Rattle.rcu_part_group.specs.contracts.members.GroupMembers as row
use Rattle.rcu_part_group.proofs.GroupTurns.{waits_few}
use Rattle.rcu_part_group.proofs.members.GroupMembers.waiting.Goals as goal

pub loop-group_member-preserved : goal.loop-group_member-preserved
loop-group_member-preserved g c = let l = c.loop-group_member in let i = l.invariant in let m = c.group_member-item.result in record {
  so_far = sum_next waiting_of c.args.self.now.others.items c.deref-group_member-items.result.now l.group_member-index c.held-waiting.result l.waiting m
      c.deref-group_member-items.ensures.value c.loop-group_member-test.true c.group_member-item.is c.held-waiting.ensures i.so_far;
  small = let before = i.small in let few = waits_few m.member in omega arith;
}

pub returns : goal.returns
returns g c = let l = c.loop-group_member in let s = c.args.self.now in
    sum_behind waiting_of s.first s.others.items l.group_member-index c.held-first.result l.waiting (omega (arith, ap length c.deref-group_member-items.ensures.value, c.loop-group_member-test.false)) c.held-first.ensures l.invariant.so_far

pub held-first-requires : goal.held-first-requires
held-first-requires g c = let h : FitsInMemory (row.the_row (param 0 g.row.J)) = assumption in in_struct _ _ _ (in_struct _ _ _ h)

pub held-waiting-requires : goal.held-waiting-requires
held-waiting-requires g c = let h : FitsInMemory (row.the_row (param 0 g.row.J)) = assumption in in_struct _ _ _ (in_struct _ _ _ h)

-- a sum of small numbers, of no more members than there can be
pub overflow_add-waiting : goal.overflow_add-waiting
overflow_add-waiting g c =
    let i = c.loop-group_member.invariant in let few = waits_few c.group_member-item.result.member in
    let held = c.held-waiting.ensures in let value = ap length c.deref-group_member-items.ensures.value in
    omega arith

pub overflow_add-result : goal.overflow_add-result
overflow_add-result g c =
    let i = c.loop-group_member.invariant in let few = waits_few c.args.self.now.first.member in
    let held = c.held-first.ensures in let value = ap length c.deref-group_member-items.ensures.value in
    omega arith
