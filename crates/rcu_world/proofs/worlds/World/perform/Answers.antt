use Rattle.std.proofs.Common.{◌≡◌, true, false}
use Rattle.rcu_world.proofs.worlds.World.perform.Goals as goal

pub unreachable-requires : goal.unreachable-requires
unreachable-requires g c = absurd (let z : false ≡ true = c.in-Err.ensures.room c.requires.room in cc)
