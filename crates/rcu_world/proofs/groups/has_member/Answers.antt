use Rattle.std.proofs.Common.{◌∙◌, ◌≤◌, sym, arith, refl, subst}
use Rattle.rcu_world.specs.Members.{is_any}
use Rattle.rcu_world.proofs.Members.{any_end, member_fails, member_meets}
use Rattle.rcu_world.proofs.groups.has_member.Goals as goal

pub loop-i-preserved : goal.loop-i-preserved
loop-i-preserved g c = c.loop-i.invariant
    ∙ member_fails g.J.Job.key_of c.args.offloadable.now.items c.args.stride c.args.group c.loop-i.i c.args.processors.now.items c.is_member_of.result (omega arith) c.is_member_of.ensures c.if-is_member_of.false

pub returns-then-is_member_of : goal.returns-then-is_member_of
returns-then-is_member_of g c = sym (c.loop-i.invariant
    ∙ member_meets g.J.Job.key_of c.args.offloadable.now.items c.args.stride c.args.group c.loop-i.i c.args.processors.now.items c.is_member_of.result (omega arith) c.is_member_of.ensures c.if-is_member_of.true)

pub loop-i-init : goal.loop-i-init
loop-i-init g c = refl

pub is_member_of-requires : goal.is_member_of-requires
is_member_of-requires g c = c.requires

pub returns : goal.returns
returns g c = sym (c.loop-i.invariant ∙ any_end g.J.Job.key_of c.args.offloadable.now.items c.args.stride c.args.group is_any c.loop-i.i c.args.processors.now.items
    (subst (λ n. n ≤ c.loop-i.i) (c.len-i-end.ensures ∙ c.args.processors.now.ok.0) c.loop-i-test.false))
