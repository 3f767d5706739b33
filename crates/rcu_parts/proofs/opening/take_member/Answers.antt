use Rattle.std.proofs.Common.{rules, refl}
use Rattle.rcu_parts.proofs.Openings.{takes_first, takes_none, begins_outside}
use Rattle.rcu_parts.proofs.opening.take_member.Goals as goal

pub returns : goal.returns
returns g c = takes_first c.args.stride c.args.group c.in_ok-front.field-0.now c.args.group_members.now.items c.pop_front.new.self.items c.pop_front.result (c.pop_front.ensures.variant.1 (c.in_ok-front.ensures.variant.0 refl)) c.in_ok-front.ensures.lookup (search rules) c.pop_front.ensures.items

pub returns-in_err-front : goal.returns-in_err-front
returns-in_err-front g c = takes_none c.args.stride c.args.group _ _ c.from_residual.ensures c.in_err-front.ensures.item.3

pub nonzero_div-branch : goal.nonzero_div-branch
nonzero_div-branch g c = c.requires

pub returns-then-branch-stride : goal.returns-then-branch-stride
returns-then-branch-stride g c = let first = c.in_ok-front.ensures.item in (refl, begins_outside c.args.stride c.args.group c.in_ok-front.field-0.now _ first.1 first.3.0 c.if-branch-stride.true)
