use Rattle.std.proofs.Common.{◌≡◌, map}
use Rattle.rcu_lists.specs.Blocks.{blocks_items}
use Rattle.rcu_lists.specs.Stamps.{newest_of}
use Rattle.rcu_lists.proofs.chain.Chain.newest.Given as goal

abbrev pub invariant-loop-block : goal.invariant-loop-block
invariant-loop-block g l = l.greatest ≡ newest_of (blocks_items (map (λ r. r.now) l.yielded))
