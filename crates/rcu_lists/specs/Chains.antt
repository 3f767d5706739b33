-- What contracts see of a chain of blocks.
use Rattle.std.specs.Prelude.{List}
use Rattle.rcu_jobs.specs.declared.callback.Callback.{Callback}
use Rattle.rcu_lists.specs.Blocks.{blocks_items}
use Rattle.rcu_lists.specs.declared.chain.Chain.{Chain}

module _ {J : Type 0} where
  -- its callbacks, first one first
  abbrev pub chain_items : Chain J → List (Callback J)
  chain_items c = blocks_items c.blocks.items
