use Rattle.std.proofs.Common.{◌++◌}
use Rattle.std.specs.Prelude.{option_to_list}
use Rattle.rcu_lists.specs.Batches.{batch_items}
use Rattle.rcu_part_lists.specs.Ends.{before_end}
use Rattle.rcu_part_lists.specs.Lanes.{drawn_calls}
use Rattle.rcu_part_lists.proofs.Holdings.{rest-safe, head-safe}
use Rattle.rcu_part_lists.proofs.Pieces.{before-of, ends-of, all-taken}
use denote.Param.{param}
use Rattle.rcu_part_lists.proofs.Sizes.{held-batch}
use Rattle.rcu_part_lists.proofs.hand.Held.take.Goals as goal

pub invariant_of-self : goal.invariant_of-self
invariant_of-self g c =
    let s = c.args.self.now in
    let xs = batch_items s.batch in
    let ys = batch_items c.take_first.new.self in
    record {
      order = ends-of (before_end (drawn_calls s.inlet.front) xs ++ option_to_list c.take_first.result) (drawn_calls s.inlet.front) ys (all-taken c.take_first.result (drawn_calls s.inlet.front) xs ys s.order c.take_first.ensures);
      safe = rest-safe c.take_first.result xs ys c.take_first.ensures s.safe;
    }

pub returns-clause-taken : goal.returns-clause-taken
returns-clause-taken g c =
    let s = c.args.self.now in
    let xs = batch_items s.batch in
    let ys = batch_items c.take_first.new.self in
    before-of (before_end (drawn_calls s.inlet.front) xs ++ option_to_list c.take_first.result) (drawn_calls s.inlet.front) ys (all-taken c.take_first.result (drawn_calls s.inlet.front) xs ys s.order c.take_first.ensures)

pub returns-clause-safe : goal.returns-clause-safe
returns-clause-safe g c = head-safe c.take_first.result (batch_items c.args.self.now.batch) (batch_items c.take_first.new.self) c.take_first.ensures c.args.self.now.safe

pub take_first-requires : goal.take_first-requires
take_first-requires g c = held-batch (param 0 g.row.J) assumption

pub returns-clause-first : goal.returns-clause-first
returns-clause-first g c = c.take_first.ensures
