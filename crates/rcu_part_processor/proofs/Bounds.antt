-- The bounds of what a processor holds.
use Rattle.std.proofs.Common.{◌≢◌, ℕ, ◌<◌, ◌≤◌, arith}
use Rattle.rcu_numbers.specs.declared.sequence.TheConstants.{LAST_NUMBER}
use Rattle.rcu_numbers.specs.declared.shape.TheConstants.{MOST_CALLS}

-- a callback with an accepted number and a stamp that was seen may go over a lane, and there is a number for it
pub is_safe_call : (stamp number limit passed : ℕ) → stamp ≤ LAST_NUMBER → number < limit → limit ≤ MOST_CALLS → passed ≤ number
    → ((stamp ≤ LAST_NUMBER) × (number < MOST_CALLS)) × (passed < MOST_CALLS)
is_safe_call stamp number limit passed small low most few = ((small, omega arith), omega arith)

-- a count below the limit isn't the limit
pub below_isnt : (n limit : ℕ) → n < limit → n ≢ limit
below_isnt n limit low full = omega arith
