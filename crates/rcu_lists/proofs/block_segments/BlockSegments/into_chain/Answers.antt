use Rattle.std.proofs.Common.{sym}
use Rattle.rcu_lists.specs.Chains.{chain_items}
use Rattle.rcu_lists.proofs.Cuts.{callbacks-cut}
use Rattle.rcu_lists.proofs.block_segments.BlockSegments.into_chain.Goals as goal

pub returns : goal.returns
returns g c = let s = c.args.self in let b = s.bounds in sym (callbacks-cut b.wait_number b.ready_number b.done b.wait b.ready (chain_items s.list) s.within)
