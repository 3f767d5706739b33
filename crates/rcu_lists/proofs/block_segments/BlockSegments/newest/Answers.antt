use Rattle.std.proofs.Common.{◌∙◌, ap, sym}
use Rattle.rcu_lists.specs.Chains.{chain_items}
use Rattle.rcu_lists.specs.Stamps.{newest_of}
use Rattle.rcu_lists.proofs.Cuts.{callbacks-cut}
use Rattle.rcu_lists.proofs.block_segments.BlockSegments.newest.Goals as goal

pub returns : goal.returns
returns g c = let s = c.args.self.now in let b = s.bounds in
    c.newest.ensures ∙ ap newest_of (sym (callbacks-cut b.wait_number b.ready_number b.done b.wait b.ready (chain_items s.list) s.within))
