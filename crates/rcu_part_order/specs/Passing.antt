-- What a group passes on of one member (docs/specification/definitions.md, "Places").
use Rattle.std.specs.Prelude.{◌≡◌, List, ◌++◌}
use Rattle.rcu_part_order.specs.Places.{Numbered}

-- What the group drew from the member's lane is what it put on the done lane, then the batch that waits for that lane, then its list for the
-- member, then the drawn batch that waits for room.
abbrev pub Passed : (drawn put out list waiting : List Numbered) → Type 0
Passed drawn put out list waiting = drawn ≡ put ++ (out ++ (list ++ waiting))
