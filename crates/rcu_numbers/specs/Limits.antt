-- The limits of a runtime: docs/specification/rules.md, "Limits".
use Rattle.std.specs.Prelude.{ℕ, ◌*◌, ◌+◌, ◌^◌, ◌<◌, ◌≤◌}
use Rattle.rcu_numbers.specs.declared.set.TheConstants.{PARTS_PROCESSORS}
use Rattle.rcu_numbers.specs.declared.shape.TheConstants.{MOST_CALLBACKS, MOST_CALLS, MOST_PROCESSORS}

-- a number from least to greatest
abbrev pub IsWithin : ℕ → ℕ → ℕ → Type 0
IsWithin least greatest n = (least ≤ n) × (n ≤ greatest)

pub record IsWithinLimits (processors offloadable stride blimit qhimark limit : ℕ) : Type 0 where
  pub some_processors : IsWithin 1 MOST_PROCESSORS processors
  -- no bit at place `processors` or above
  pub mask : offloadable < 2 ^ processors
  pub group : IsWithin 1 MOST_PROCESSORS stride
  pub batch : IsWithin 1 MOST_CALLBACKS blimit
  pub mark : IsWithin 1 MOST_CALLBACKS qhimark
  pub accepted : IsWithin 1 MOST_CALLBACKS limit

-- The same for the running parts, whose offloadable processors are the bits of this number.
pub record IsWithinPartsLimits (processors offloadable stride blimit qhimark limit : ℕ) : Type 0 where
  pub some_processors : IsWithin 1 PARTS_PROCESSORS processors
  -- no processor that isn't there
  pub mask : offloadable < 2 ^ processors
  pub group : IsWithin 1 PARTS_PROCESSORS stride
  pub batch : IsWithin 1 MOST_CALLBACKS blimit
  pub mark : IsWithin 1 MOST_CALLBACKS qhimark
  pub accepted : IsWithin 1 MOST_CALLS limit

-- r is the whole square root of n
pub record IsWholeRoot (n r : ℕ) : Type 0 where
  pub below : r * r ≤ n
  pub above : n < (r + 1) * (r + 1)
