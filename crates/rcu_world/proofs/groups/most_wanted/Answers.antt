use Rattle.std.proofs.Common.{◌∙◌, arith, ◌<◌, ◌≤◌, subst, sym, refl}
use Rattle.rcu_world.proofs.Members.{most_end, most_more}
use Rattle.rcu_world.proofs.Places.{steps_on}
use Rattle.rcu_world.proofs.groups.most_wanted.Goals as goal

pub loop-i-preserved : goal.loop-i-preserved
loop-i-preserved g c = c.loop-i.invariant
    ∙ most_more g.J.Job.key_of c.args.offloadable.now.items c.args.stride c.args.group c.loop-i.most c.loop-i.i c.args.processors.now.items c.index.result.now c.is_member_of-member.result c.most_as-most.result
    (omega arith) c.index.ensures c.is_member_of-member.ensures c.most_as-most.ensures

pub is_member_of-member-requires : goal.is_member_of-member-requires
is_member_of-member-requires g c = c.requires

pub index-requires : goal.index-requires
index-requires g c = subst (λ n. c.loop-i.i < n) c.len-i-end.ensures c.loop-i-test.true

pub loop-i-smaller : goal.loop-i-smaller
loop-i-smaller g c = steps_on _ _ c.loop-i-test.true

pub loop-i-init : goal.loop-i-init
loop-i-init g c = refl

pub most_as-most-requires-after_bounds : goal.most_as-most-requires-after_bounds
most_as-most-requires-after_bounds g c κs within = assumption

pub returns : goal.returns
returns g c = sym (c.loop-i.invariant ∙ most_end g.J.Job.key_of c.args.offloadable.now.items c.args.stride c.args.group c.loop-i.most c.loop-i.i c.args.processors.now.items
    (subst (λ n. n ≤ c.loop-i.i) (c.len-i-end.ensures ∙ c.args.processors.now.ok.0) c.loop-i-test.false))

pub most_as-most-requires-send-J : goal.most_as-most-requires-send-J
most_as-most-requires-send-J g c κs within = c.type_bounds.send-J

pub most_as-most-requires-send-J-Receipt : goal.most_as-most-requires-send-J-Receipt
most_as-most-requires-send-J-Receipt g c κs within = c.type_bounds.send-J-Receipt
