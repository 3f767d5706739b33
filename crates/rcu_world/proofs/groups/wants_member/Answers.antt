use Rattle.std.proofs.Common.{◌∙◌, sym, arith, ◌<◌, ◌≤◌, refl, subst}
use Rattle.rcu_world_processor.specs.Members.{is_wanting}
use Rattle.rcu_world.proofs.Members.{any_end, any_fails, any_meets}
use Rattle.rcu_world.proofs.Places.{steps_on}
use Rattle.rcu_world.proofs.groups.wants_member.Goals as goal

pub loop-i-preserved : goal.loop-i-preserved
loop-i-preserved g c = c.loop-i.invariant
    ∙ any_fails g.J.Job.key_of c.args.offloadable.now.items c.args.stride c.args.group is_wanting c.loop-i.i c.args.processors.now.items c.index.result.now c.is_member_of-member.result
    (omega arith) c.index.ensures c.is_member_of-member.ensures (sym c.wants_as.ensures ∙ c.if-wants_as.false)

pub returns-then-wants_as : goal.returns-then-wants_as
returns-then-wants_as g c = sym (c.loop-i.invariant
    ∙ any_meets g.J.Job.key_of c.args.offloadable.now.items c.args.stride c.args.group is_wanting c.loop-i.i c.args.processors.now.items c.index.result.now c.is_member_of-member.result
    (omega arith) c.index.ensures c.is_member_of-member.ensures (sym c.wants_as.ensures ∙ c.if-wants_as.true))

pub index-requires : goal.index-requires
index-requires g c = subst (λ n. c.loop-i.i < n) c.len-i-end.ensures c.loop-i-test.true

pub wants_as-requires-after_bounds : goal.wants_as-requires-after_bounds
wants_as-requires-after_bounds g c κs within = assumption

pub loop-i-smaller : goal.loop-i-smaller
loop-i-smaller g c = steps_on _ _ c.loop-i-test.true

pub loop-i-init : goal.loop-i-init
loop-i-init g c = refl

pub is_member_of-member-requires : goal.is_member_of-member-requires
is_member_of-member-requires g c = c.requires

pub returns : goal.returns
returns g c = sym (c.loop-i.invariant ∙ any_end g.J.Job.key_of c.args.offloadable.now.items c.args.stride c.args.group is_wanting c.loop-i.i c.args.processors.now.items
    (subst (λ n. n ≤ c.loop-i.i) (c.len-i-end.ensures ∙ c.args.processors.now.ok.0) c.loop-i-test.false))

pub wants_as-requires-send-J : goal.wants_as-requires-send-J
wants_as-requires-send-J g c κs within = c.type_bounds.send-J

pub wants_as-requires-send-J-Receipt : goal.wants_as-requires-send-J-Receipt
wants_as-requires-send-J-Receipt g c κs within = c.type_bounds.send-J-Receipt
