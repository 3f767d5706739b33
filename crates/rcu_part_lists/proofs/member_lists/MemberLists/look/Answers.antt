use Rattle.std.proofs.Common.{◌++◌, ap, sym, ◌∙◌, subst, refl, List}
use Rattle.rcu_lists.specs.Batches.{batch_items}
use Rattle.rcu_part_lists.specs.Lanes.{put_calls}
use Rattle.rcu_part_lists.specs.Limits.{AreSafe}
use Rattle.rcu_lists.specs.Labels.{Labelled}
use Rattle.rcu_lists.specs.BlockSegments.{block_labelled}
use Rattle.rcu_part_lists.specs.MemberLists.{relay}
use Rattle.rcu_part_lists.proofs.member_lists.MemberLists.look.Goals as goal

pub invariant_of-self : goal.invariant_of-self
invariant_of-self g c =
    let s = c.args.self.now in
    record {
      order = s.order ∙ ap (λ cs. put_calls s.outlet.rear ++ (batch_items s.out ++ (cs ++ batch_items s.drawn))) (sym c.look_at_blocks.ensures.callbacks);
      drawn_safe = s.drawn_safe;
      list_safe = subst AreSafe (sym c.look_at_blocks.ensures.callbacks) s.list_safe;
      out_safe = s.out_safe;
      few = s.few;
      aimed = c.look_at_blocks.ensures.aimed;
    }

pub look_at_blocks-requires-clause-safe : goal.look_at_blocks-requires-clause-safe
look_at_blocks-requires-clause-safe g c = c.args.self.now.list_safe

pub look_at_blocks-requires-clause-aimed : goal.look_at_blocks-requires-clause-aimed
look_at_blocks-requires-clause-aimed g c = c.args.self.now.aimed

pub look_at_blocks-requires-clause-later : goal.look_at_blocks-requires-clause-later
look_at_blocks-requires-clause-later g c = c.requires.later

pub look_at_blocks-requires-clause-small : goal.look_at_blocks-requires-clause-small
look_at_blocks-requires-clause-small g c = c.requires.small

pub returns-clause-ends : goal.returns-clause-ends
returns-clause-ends g c = (refl, refl)

pub returns-clause-list : goal.returns-clause-list
returns-clause-list g c = let r = relay c.args.self.now in let e = c.look_at_blocks.ensures in
    ap (λ n. record r { list = block_labelled c.look_at_blocks.new.list; advanced = n }) e.advanced ∙ ap (λ (ws : List (Labelled g.row.J.Denot)). record r { list = ws; advanced = c.args.seen }) e.list

pub returns-clause-wanted : goal.returns-clause-wanted
returns-clause-wanted g c = c.look_at_blocks.ensures.wanted

pub returns-clause-needed : goal.returns-clause-needed
returns-clause-needed g c = c.look_at_blocks.ensures.needed
