use Rattle.std.proofs.Common.{sym, subst, ◌++◌, ap, ◌∙◌, refl}
use Rattle.rcu_part_lists.specs.Limits.{AreSafe}
use Rattle.rcu_lists.specs.Batches.{batch_items}
use Rattle.rcu_part_lists.specs.Lanes.{put_calls}
use Rattle.rcu_part_lists.proofs.member_lists.MemberLists.into_parts.Goals as goal

pub returns-clause-safe : goal.returns-clause-safe
returns-clause-safe g c = (subst AreSafe (sym c.into_chain.ensures) c.args.self.list_safe, c.args.self.drawn_safe, c.args.self.out_safe)

pub returns-clause-ends : goal.returns-clause-ends
returns-clause-ends g c = (c.into_front-front.ensures, c.into_rear-rear.ensures)

pub returns-clause-list : goal.returns-clause-list
returns-clause-list g c = c.into_chain.ensures

pub returns-clause-drawn : goal.returns-clause-drawn
returns-clause-drawn g c = refl

pub returns-clause-out : goal.returns-clause-out
returns-clause-out g c = refl

pub returns-clause-order : goal.returns-clause-order
returns-clause-order g c = let s = c.args.self in
    s.order ∙ ap (λ cs. put_calls s.outlet.rear ++ (batch_items s.out ++ (cs ++ batch_items s.drawn))) (sym c.into_chain.ensures)
