use Rattle.std.specs.Mem.{FitsInMemory}
use denote.Param.{param}
use Rattle.rcu_part_lists.proofs.Sizes.{in_struct}
use Rattle.std.proofs.Common.{◌≡◌, ◌≢◌, ◌<◌, zero, suc, length, get_or, ap, sym, ◌∙◌, refl, subst, arith}
use Rattle.std.proofs.lemmas.List.{take_all}
use Rattle.std.proofs.lemmas.List.Elements.{All-cons, All-more, All-same}
use Rattle.rcu_part_group.specs.declared.members.GroupMember.{GroupMember}
use Rattle.rcu_part_group.specs.contracts.members.GroupMembers as row
use Rattle.rcu_part_group.proofs.members.GroupMembers.lists.Goals as goal

pub returns-then-self-p : goal.returns-then-self-p
returns-then-self-p g c = (zero, c.args.self.now.first, omega arith, refl, (c.if-self-p.true, c.lists.ensures))

pub returns-then-group_member-p : goal.returns-then-group_member-p
returns-then-group_member-p g c = let l = c.loop-group_member in let s = c.args.self.now in let value = c.deref-group_member-items.ensures.value in
    let at : get_or s.others.items l.group_member-index c.group_member-item.result ≡ c.group_member-item.result = sym (c.group_member-item.is ∙ ap (λ ms. get_or ms l.group_member-index c.group_member-item.result) value) in
    (suc l.group_member-index, c.group_member-item.result, omega (arith, c.loop-group_member-test.true, ap length value), at, (c.if-group_member-p.true, c.lists-then-group_member-p.ensures))

pub loop-group_member-preserved : goal.loop-group_member-preserved
loop-group_member-preserved g c = let l = c.loop-group_member in let s = c.args.self.now in let value = c.deref-group_member-items.ensures.value in
    let other : GroupMember g.row.J.Denot → Type 0 = λ m. m.cpu ≢ c.args.p in
    let low : l.group_member-index < length s.others.items = omega (arith, c.loop-group_member-test.true, ap length value) in
    let at : c.group_member-item.result ≡ get_or s.others.items l.group_member-index c.group_member-item.result = c.group_member-item.is ∙ ap (λ ms. get_or ms l.group_member-index c.group_member-item.result) value in
    All-more other s.others.items l.group_member-index c.group_member-item.result low l.invariant (subst other at c.if-group_member-p.false)

pub returns : goal.returns
returns g c = let l = c.loop-group_member in let s = c.args.self.now in
    let other : GroupMember g.row.J.Denot → Type 0 = λ m. m.cpu ≢ c.args.p in
    let all = take_all l.group_member-index s.others.items (omega (arith, c.loop-group_member-test.false, ap length c.deref-group_member-items.ensures.value)) in
    All-cons other s.first s.others.items c.if-self-p.false (All-same other s.others.items _ (sym all) l.invariant)

pub lists-requires : goal.lists-requires
lists-requires g c = let h : FitsInMemory (row.the_row (param 0 g.row.J)) = assumption in in_struct _ _ _ (in_struct _ _ _ h)

pub lists-requires-then-group_member-p : goal.lists-requires-then-group_member-p
lists-requires-then-group_member-p g c = let h : FitsInMemory (row.the_row (param 0 g.row.J)) = assumption in in_struct _ _ _ (in_struct _ _ _ h)
