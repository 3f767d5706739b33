use Rattle.std.proofs.Common.{◌+◌, length}
use Rattle.rcu_lists.specs.Blocks.{blocks_items, BlockRoom}
use Rattle.rcu_lists.specs.Parcels.{places_items}
use Rattle.rcu_lists.proofs.Blocks.{Moving}
use Rattle.rcu_lists.proofs.chain.move_first.Given as goal

abbrev pub invariant-loop-more : goal.invariant-loop-more
invariant-loop-more g l = record {
  moving : Moving (places_items l.fn.to) (blocks_items l.fn.blocks.items) l.number l.more (places_items l.to) (blocks_items l.blocks.items);
  room : BlockRoom l.to l.more;
}

abbrev pub decreases-loop-more : goal.decreases-loop-more
decreases-loop-more g l = l.more + length l.blocks.items
