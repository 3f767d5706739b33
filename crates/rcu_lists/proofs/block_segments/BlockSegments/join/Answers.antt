use Rattle.std.proofs.Common.{◌∙◌, ap, refl}
use Rattle.rcu_lists.specs.Batches.{batch_items}
use Rattle.rcu_lists.specs.Bounds.{cut_by}
use Rattle.rcu_lists.specs.Chains.{chain_items}
use Rattle.rcu_lists.proofs.Joins.{joined-within, joined-graced}
use Rattle.rcu_lists.proofs.Cuts.{cut-join}
use Rattle.rcu_lists.proofs.block_segments.BlockSegments.join.Goals as goal

pub invariant_of-self : goal.invariant_of-self
invariant_of-self g c = let s = c.args.self.now in let b = s.bounds in let j = c.join.ensures in record {
  within = joined-within c.join.result b (chain_items s.list) (chain_items c.join.new.self) (batch_items c.args.batch.now) (λ t. (j.joined t).0) (λ f. (j.refused f).0) s.within;
  graced = joined-graced c.join.result b (chain_items s.list) (chain_items c.join.new.self) (batch_items c.args.batch.now) (λ t. (j.joined t).0) (λ f. (j.refused f).0) s.within s.graced;
}

pub returns-clause-joined : goal.returns-clause-joined
returns-clause-joined g c = λ t. let s = c.args.self.now in let b = s.bounds in let j = c.join.ensures.joined t in
    (ap (cut_by b) j.0 ∙ cut-join b.wait_number b.ready_number b.done b.wait b.ready (chain_items s.list) (batch_items c.args.batch.now) s.within, j.1)

pub returns-clause-refused : goal.returns-clause-refused
returns-clause-refused g c = λ f. let j = c.join.ensures.refused f in (ap (cut_by c.args.self.now.bounds) j.0, j.1)

pub join-requires : goal.join-requires
join-requires g c = assumption

pub returns-clause-advanced : goal.returns-clause-advanced
returns-clause-advanced g c = refl
