-- What contracts see of a list of segments over blocks: the labelled list, and the greatest number it was advanced by.
use Rattle.std.specs.Prelude.{◌≡◌, ℕ, List}
use Rattle.rcu_lists.specs.Bounds.{cut_by}
use Rattle.rcu_lists.specs.Chains.{chain_items}
use Rattle.rcu_lists.specs.Labels.{Labelled}
use Rattle.rcu_lists.specs.declared.block_segments.BlockSegments.{BlockSegments}

module _ {J : Type 0} where
  abbrev pub block_labelled : BlockSegments J → List (Labelled J)
  block_labelled s = cut_by s.bounds (chain_items s.list)

  -- the greatest number that the list was advanced by, 0 before the first
  abbrev pub block_advanced_by : BlockSegments J → ℕ
  block_advanced_by s = s.bounds.advanced

  -- everything is as it was
  pub record BlocksUnchanged (old new : BlockSegments J) : Type 0 where
    pub list : block_labelled new ≡ block_labelled old
    pub advanced : block_advanced_by new ≡ block_advanced_by old
