use Rattle.std.proofs.Common.{◌≡◌, length}
use Rattle.rcu_lists.specs.Blocks.{blocks_items}
use Rattle.rcu_lists.proofs.chain.take_from_blocks.Given as goal

-- the blocks that were dropped held none
abbrev pub invariant-loop-block : goal.invariant-loop-block
invariant-loop-block g l = blocks_items l.blocks.items ≡ blocks_items l.fn.blocks.items

abbrev pub decreases-loop-block : goal.decreases-loop-block
decreases-loop-block g l = length l.blocks.items
