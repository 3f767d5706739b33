use Rattle.std.proofs.Common.{◌++◌, ap, sym, ◌∙◌, subst, refl}
use Rattle.rcu_lists.specs.Batches.{batch_items}
use Rattle.rcu_lists.specs.BlockSegments.{block_labelled, block_advanced_by}
use Rattle.rcu_part_lists.specs.Aims.{AreAimed}
use Rattle.rcu_part_lists.specs.Lanes.{put_calls}
use Rattle.rcu_part_lists.specs.MemberLists.{relay}
use Rattle.rcu_part_lists.proofs.Relays.{IfJoined, join-together, join-aimed, join-safe, join-rest, join-relay}
use denote.Param.{param}
use Rattle.rcu_part_lists.proofs.Sizes.{member-batch}
use Rattle.rcu_part_lists.proofs.member_lists.MemberLists.join_one.Goals as goal

pub invariant_of-self : goal.invariant_of-self
invariant_of-self g c =
    let s = c.args.self.now in
    let xs = block_labelled s.list in
    let ys = block_labelled c.join.new.self in
    let ds = batch_items s.drawn in
    let es = batch_items c.join.new.batch in
    let h : IfJoined c.join.result xs ys ds es = (c.join.ensures.joined, c.join.ensures.refused) in
    record {
      order = s.order ∙ ap (λ cs. put_calls s.outlet.rear ++ (batch_items s.out ++ cs)) (sym (join-together c.join.result xs ys ds es h));
      drawn_safe = join-rest c.join.result xs ys ds es h s.drawn_safe;
      list_safe = join-safe c.join.result xs ys ds es h s.list_safe s.drawn_safe;
      out_safe = s.out_safe;
      few = s.few;
      aimed = subst (λ n. AreAimed n ys) (sym c.join.ensures.advanced) (join-aimed (block_advanced_by s.list) c.join.result xs ys ds es h s.aimed);
    }

pub returns-clause-joins : goal.returns-clause-joins
returns-clause-joins g c =
    let r = relay c.args.self.now in
    let n = record r { list = block_labelled c.join.new.self; advanced = block_advanced_by c.join.new.self; drawn = batch_items c.join.new.batch } in
    (join-relay c.join.result r n (c.join.ensures.joined, c.join.ensures.refused) (ap (λ k. record n { advanced = k }) c.join.ensures.advanced)).0

pub returns-clause-waits : goal.returns-clause-waits
returns-clause-waits g c =
    let r = relay c.args.self.now in
    let n = record r { list = block_labelled c.join.new.self; advanced = block_advanced_by c.join.new.self; drawn = batch_items c.join.new.batch } in
    (join-relay c.join.result r n (c.join.ensures.joined, c.join.ensures.refused) (ap (λ k. record n { advanced = k }) c.join.ensures.advanced)).1

pub join-requires : goal.join-requires
join-requires g c = member-batch (param 0 g.row.J) assumption

pub returns-clause-ends : goal.returns-clause-ends
returns-clause-ends g c = (refl, refl)

pub returns-clause-advanced : goal.returns-clause-advanced
returns-clause-advanced g c = c.join.ensures.advanced
