use Rattle.std.proofs.Common.{◌<◌, ◌∙◌, Some, ap, sym, arith, refl}
use Rattle.rcu_lists.specs.Chains.{chain_items}
use Rattle.rcu_lists.proofs.Stamps.{newest-ordered}
use Rattle.rcu_lists.proofs.Blocks.{newest-blocks}
use Rattle.rcu_lists.proofs.chain.Chain.newest.Goals as goal

pub returns-then-self : goal.returns-then-self
returns-then-self g c = let s = c.args.self.now in let some : 0 < s.len = omega arith in
    ap Some (s.newest some) ∙ sym (newest-ordered 0 (chain_items s) (s.stamps c.if-self.true) (omega (arith, some, s.counted)))

pub loop-block-preserved : goal.loop-block-preserved
loop-block-preserved g c = newest-blocks (λ r. r.now) c.loop-block.yielded c.in-Some.block c.loop-block.greatest _ c.loop-block.invariant c.newer_than-greatest.ensures

pub loop-block-init : goal.loop-block-init
loop-block-init g c = refl
