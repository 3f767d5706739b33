-- What is left of the records of what ran: docs/specification/definitions.md, "Places".
use Rattle.std.specs.Prelude.{◌≡◌, ℕ, ◌≤◌, List, [], drop, length}
use Rattle.rcu_jobs.specs.declared.callback.Record.{Record}
use Rattle.rcu_part_order.specs.declared.recorded.Kept.{Kept}
use Rattle.rcu_part_order.specs.declared.recorded.Kept.TheVariants.{Whole, Nothing}

-- Of all these records so many are gone, the first ones, and the others are left.
pub record IsLeft {R : Type 0} (gone : ℕ) (all left : List (Record R)) : Type 0 where
  pub within : gone ≤ length all
  pub left_is : left ≡ drop gone all

-- That is as was chosen: where all are kept none is gone, and where nothing is kept none is left.
pub record IsKeptAs {R : Type 0} (kept : Kept) (gone : ℕ) (left : List (Record R)) : Type 0 where
  pub whole : kept ≡ Whole → gone ≡ 0
  pub nothing : kept ≡ Nothing → left ≡ []
