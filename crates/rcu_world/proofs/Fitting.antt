-- What the calls of a world ask of a processor
use Rattle.std.proofs.Common.{ℕ, ◌+◌, ◌<◌, arith}
use Rattle.std.specs.Mem.{FitsInMemory}
use denote.RattleType.{RattleType}
use prog.Memory.{up}
use Rattle.rcu_world_processor.specs.contracts.processor.WorldProcessor as processor
use Rattle.rcu_world.specs.contracts.cores.Core as core
use Rattle.rcu_world.specs.contracts.worlds.World as world
use Rattle.rcu_world.proofs.Sizes.{processor_fits}

in_world : (a off x : ℕ) → up a (off + x) < 9223372036854775808 → x < 9223372036854775808
in_world a off x h = omega arith

pub core_fits : (J R : RattleType) → FitsInMemory (world.the_row J R) → FitsInMemory (core.the_row J R)
core_fits J R h = in_world _ _ _ h

-- a processor fits in memory, since a world that fits has one in place
pub fits_there : (J R : RattleType) → FitsInMemory (world.the_row J R) → FitsInMemory (processor.the_row J R)
fits_there J R h = processor_fits J R (core_fits J R h)
