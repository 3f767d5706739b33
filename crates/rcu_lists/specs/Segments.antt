-- What contracts see of a list of segments: the labelled list, the greatest number it was advanced by, and its room.
use Rattle.std.specs.Prelude.{◌≡◌, ℕ, ◌+◌, ◌≤◌, List, length}
use Rattle.std.specs.VecDeque.{deque_capacity}
use Rattle.rcu_lists.specs.Bounds.{cut_by}
use Rattle.rcu_lists.specs.Labels.{Labelled}
use Rattle.rcu_lists.specs.declared.segments.Segments.{Segments}

module _ {J : Type 0} where
  abbrev pub labelled : Segments J → List (Labelled J)
  labelled s = cut_by s.bounds s.list.items

  -- the greatest number that the list was advanced by, 0 before the first
  abbrev pub advanced_by : Segments J → ℕ
  advanced_by s = s.bounds.advanced

  -- so many more callbacks fit with no memory
  abbrev pub SegmentsRoom : Segments J → ℕ → Type 0
  SegmentsRoom s more = length s.list.items + more ≤ deque_capacity s.list

  -- everything is as it was
  pub record SegmentsUnchanged (old new : Segments J) : Type 0 where
    pub list : labelled new ≡ labelled old
    pub advanced : advanced_by new ≡ advanced_by old
    pub room : (more : ℕ) → SegmentsRoom old more → SegmentsRoom new more
