use Rattle.std.proofs.Common.{◌≡◌, ◌<◌, ◌≤◌, ℕ, zero, ◌+◌, [], ◌∷◌, ◌++◌, List, length, length-append, get_or, set, refl, ◌∙◌, ap, sym, subst, arith}
use Rattle.std.specs.Mem.{FitsInMemory}
use borrow.Author.Rules.{scaled_Fits}
use denote.Param.{param}
use Rattle.rcu_part_lists.proofs.Sizes.{in_struct}
use Rattle.rcu_part_group.specs.Each.{Each}
use Rattle.rcu_part_group.specs.GroupLaw.{relay_of}
use Rattle.rcu_part_group.specs.Groups.{LooksAt}
use Rattle.rcu_part_group.specs.declared.members.GroupMember.{GroupMember}
use Rattle.rcu_part_group.specs.contracts.members.GroupMembers as row
use Rattle.rcu_part_group.proofs.GroupLists.{Partly, behind, partly_next, partly_rest, partly_long, partly_end, greatest_next, greatest_one, written}
use Rattle.rcu_part_group.proofs.GroupTurns.{looks_at}
use Rattle.rcu_part_group.proofs.members.GroupMembers.look.Goals as goal

pub look-first-requires : goal.look-first-requires
look-first-requires g c = let h : FitsInMemory (row.the_row (param 0 g.row.J)) = assumption in
    (in_struct _ _ _ (in_struct _ _ _ h), (c.requires.later zero c.args.self.now.first (omega arith), c.requires.small))

pub loop-group_member-init : goal.loop-group_member-init
loop-group_member-init g c = record { wants = []; many = refl; members = c.deref_mut-group_member-items.ensures.value; greatest = greatest_one c.look-first.result }

pub look-wanted-requires : goal.look-wanted-requires
look-wanted-requires g c =
    let h : FitsInMemory (row.the_row (param 0 g.row.J)) = assumption in
    let l = c.loop-group_member in let i = l.invariant in let s = c.args.self.now in let olds = s.others.items in
    let low : l.group_member-index < length olds = omega (arith, l.auto.group_member-items, c.loop-group_member-test.true, partly_long (LooksAt c.args.seen) i.wants olds l.group_member-items i.members) in
    let same : get_or olds l.group_member-index c.group_member-item.result ≡ get_or l.group_member-items l.group_member-index c.group_member-item.result = sym (partly_rest (LooksAt c.args.seen) i.wants olds l.group_member-items l.group_member-index c.group_member-item.result (omega (arith, i.many)) i.members) in
    (in_struct _ _ _ (in_struct _ _ _ h), (subst (λ (m : GroupMember g.row.J.Denot). (relay_of m).advanced ≤ c.args.seen) same (behind (λ (m : GroupMember g.row.J.Denot). (relay_of m).advanced ≤ c.args.seen) s.first olds c.requires.later l.group_member-index c.group_member-item.result low), c.requires.small))

pub loop-group_member-preserved : goal.loop-group_member-preserved
loop-group_member-preserved g c =
    let l = c.loop-group_member in let i = l.invariant in let n = c.look-wanted.result in let e = c.look-wanted.ensures in let m = get_or l.group_member-items l.group_member-index c.group_member-item.result in let new = record m { member = c.look-wanted.new.self } in let olds = c.args.self.now.others.items in
    let low : length i.wants < length l.group_member-items = omega (arith, l.auto.group_member-items, c.loop-group_member-test.true, i.many) in record {
      wants = i.wants ++ n ∷ [];
      many = length-append i.wants (n ∷ []) ∙ ap (λ (k : ℕ). k + 1) i.many;
      members = subst (λ (k : ℕ). Partly (LooksAt c.args.seen) (i.wants ++ n ∷ []) olds (set l.group_member-items k new)) i.many
          (partly_next (LooksAt c.args.seen) i.wants olds l.group_member-items n c.group_member-item.result new low
          (subst (λ (k : ℕ). LooksAt c.args.seen n (get_or l.group_member-items k c.group_member-item.result) new) (sym i.many) (looks_at c.args.seen n m c.look-wanted.new.self e.ends e.list e.wanted)) i.members);
      greatest = greatest_next l.most c.greatest-most.result n (c.look-first.result ∷ i.wants) i.greatest c.greatest-most.ensures;
    }

pub returns : goal.returns
returns g c = let l = c.loop-group_member in let s = c.args.self.now in let old = s.others in let i = l.invariant in let e = c.look-first.ensures in
    let same : length l.group_member-items ≡ length old.items = l.auto.group_member-items ∙ ap length c.deref_mut-group_member-items.ensures.value in
    let done = partly_end (LooksAt c.args.seen) i.wants old.items l.group_member-items (omega (arith, l.auto.group_member-items, c.loop-group_member-test.false, i.many)) i.members in record {
      wants = c.look-first.result ∷ i.wants;
      members = (looks_at c.args.seen c.look-first.result s.first c.look-first.new.self e.ends e.list e.wanted, subst (λ (news : List (GroupMember g.row.J.Denot)). Each (LooksAt c.args.seen) i.wants old.items news) (sym (written l.group_member-items old.items old.len same old.ok.0)) done);
      greatest = i.greatest;
    }

pub offset_bounds-group_member-items-group_member-index : goal.offset_bounds-group_member-items-group_member-index
offset_bounds-group_member-items-group_member-index g c = scaled_Fits c.loop-group_member.group_member-index (length c.deref_mut-group_member-items.result.now) _ c.loop-group_member-test.true assumption
