use Rattle.std.proofs.Common.{List, length, ap}
use Rattle.rcu_part_group.specs.GroupLaw.{group_members_in}
use Rattle.rcu_lists.proofs.Outcomes.{if_ok_never}
use Rattle.rcu_parts.proofs.Openings.{taking_first, taking_last, taking_next}
use Rattle.rcu_parts.proofs.Passing.{never_popped, one_less}
use Rattle.rcu_part_group.specs.declared.members.GroupMember.{GroupMember}
use Rattle.rcu_parts.proofs.opening.take_members.Goals as goal

pub loop-group_member-init : goal.loop-group_member-init
loop-group_member-init g c = let t = taking_first c.args.stride c.args.group c.in-Some.first c.args.group_members.now.items (group_members_in c.new-members.result) c.pop_front.new.self.items c.requires.first c.in-Some.ensures.items c.new-members.ensures in record { order = t.0; inside = t.1 }

pub loop-group_member-preserved : goal.loop-group_member-preserved
loop-group_member-preserved g c = let i = c.loop-group_member.invariant in
    let t = taking_next c.args.stride c.args.group c.in-Some-take_member.group_member c.args.group_members.now.items (group_members_in c.loop-group_member.members) c.loop-group_member.group_members.items (group_members_in c.push.new.self) c.take_member.new.group_members.items i.order i.inside c.in-Some-take_member.ensures c.in_ok-push.ensures.pushed in record { order = t.0; inside = t.1 }

pub returns : goal.returns
returns g c = let i = c.loop-group_member.invariant in taking_last c.args.stride c.args.group c.args.group_members.now.items (group_members_in c.loop-group_member.members) c.loop-group_member.group_members.items c.take_member.new.group_members.items i.order i.inside c.in_default-take_member.ensures

pub new-members-requires : goal.new-members-requires
new-members-requires g c = assumption

pub push-requires : goal.push-requires
push-requires g c = assumption

pub take_member-requires : goal.take_member-requires
take_member-requires g c = (assumption, c.requires.stride)

pub returns-in_err-push : goal.returns-in_err-push
returns-in_err-push g c = if_ok_never _ _ c.from_residual.ensures

pub unreachable-requires : goal.unreachable-requires
unreachable-requires g c = let t = c.in_default.ensures in never_popped _ _ _ t.items t.rest (ap (λ (l : List (GroupMember g.row.J.Denot)). length l) c.requires.first.2)

pub unreachable-unreachable : goal.unreachable-unreachable
unreachable-unreachable g c = c.unreachable.result

pub loop-group_member-smaller : goal.loop-group_member-smaller
loop-group_member-smaller g c = one_less _ _ _ c.in-Some-take_member.ensures.1

pub drop-members-requires : goal.drop-members-requires
drop-members-requires g c = assumption
