-- The four ways in which runs end, one after the other.
use Rattle.std.specs.Prelude.{◌≡◌, ℕ, ◌+◌, ◌%◌, ◌^◌}
use Rattle.check_torture.specs.declared.actors.TheConstants.{MORE}
use Rattle.check_torture.specs.declared.plan.Ending.{Ending}
use Rattle.check_torture.specs.declared.plan.Ending.TheVariants.{DrainThenShut, Shut, Drain, Halt}

-- the place of a run among four in a row
abbrev pub place_of : ℕ → ℕ → ℕ
place_of seed run = (seed + run) % 2 ^ 64 % 4

-- how the run at this place ends
abbrev pub EndsAt : ℕ → Ending → Type 0
EndsAt place DrainThenShut = place ≡ 0
EndsAt place Shut = place ≡ 1
EndsAt place Drain = place ≡ 2
EndsAt place Halt = place ≡ 3

-- how many calls a processor's thread makes beyond its share
abbrev pub more_of : Ending → ℕ
more_of DrainThenShut = 0
more_of Shut = MORE
more_of Drain = 0
more_of Halt = 0
