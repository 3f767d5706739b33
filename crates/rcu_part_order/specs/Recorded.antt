-- What contracts see of what a part ran: docs/specification/definitions.md, "Places".
use Rattle.std.specs.Prelude.{◌≢◌, ℕ, ◌+◌, ◌^◌, ◌<◌, List, [], ◌++◌, length, vec_len, vec_capacity}
use Rattle.rcu_jobs.specs.declared.callback.Record.{Record}
use Rattle.rcu_part_order.specs.declared.recorded.Kept.{Kept}
use Rattle.rcu_part_order.specs.declared.recorded.Kept.TheVariants.{Whole, Rest, Nothing}
use Rattle.rcu_part_order.specs.declared.recorded.Records.{Records}

-- What ran: what of its records is kept, all of them, and how many of them, the first ones, are here no more.
pub record Recorded (R : Type 0) : Type 0 where
  pub kept : Kept
  pub all : List (Record R)
  pub gone : ℕ

-- of so many records that are added, how many aren't kept
abbrev pub lost : Kept → ℕ → ℕ
lost Whole n = 0
lost Rest n = 0
lost Nothing n = n

-- how many of so many records are gone once those are taken out that may be
abbrev pub gone_as : Kept → ℕ → ℕ → ℕ
gone_as Whole gone many = gone
gone_as Rest gone many = many
gone_as Nothing gone many = gone

module _ {R : Type 0} where
  abbrev pub recorded : Records R → Recorded R
  recorded r = record { kept = r.kept; all = r.all.items; gone = r.gone }

  -- all records of what ran
  abbrev pub ran_of : Records R → List (Record R)
  ran_of r = r.all.items

  -- the records that are left
  abbrev pub left_in : Records R → List (Record R)
  left_in r = r.left.items

  -- these ran, too
  abbrev pub and_ran : List (Record R) → Recorded R → Recorded R
  and_ran more r = record { kept = r.kept; all = r.all ++ more; gone = r.gone + lost r.kept (length more) }

  -- those that may be taken out
  abbrev pub takeable_as : Kept → List (Record R) → List (Record R)
  takeable_as Whole left = []
  takeable_as Rest left = left
  takeable_as Nothing left = []

  abbrev pub takeable : Records R → List (Record R)
  takeable r = takeable_as r.kept r.left.items

  -- they were taken out
  abbrev pub as_taken : Recorded R → Recorded R
  as_taken r = record { kept = r.kept; all = r.all; gone = gone_as r.kept r.gone (length r.all) }

  -- there is room for one more
  pub record HasRoom (r : Records R) : Type 0 where
    pub slot : r.kept ≢ Nothing → vec_len r.left < vec_capacity r.left
    pub small : length r.all.items + 1 < 2 ^ 64

  -- there is room for two more
  pub record HasRoomForTwo (r : Records R) : Type 0 where
    pub slot : r.kept ≢ Nothing → vec_len r.left + 1 < vec_capacity r.left
    pub small : length r.all.items + 2 < 2 ^ 64
