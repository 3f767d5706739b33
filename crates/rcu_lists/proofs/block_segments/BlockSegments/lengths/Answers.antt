use Rattle.std.proofs.Common.{◌≡◌, length, sym}
use Rattle.rcu_lists.specs.Chains.{chain_items}
use Rattle.rcu_lists.proofs.block_segments.BlockSegments.lengths.Goals as goal

pub returns : goal.returns
returns g c = let s = c.args.self.now in let len : length (chain_items s.list) ≡ c.len.result = sym c.len.ensures in c.lengths.ensures (chain_items s.list) len
