use Rattle.std.proofs.Common.{take}
use Rattle.rcu_world.specs.Leaving.{HaveRoom}
use Rattle.rcu_world.proofs.end.find_rooms.Given as goal

abbrev pub invariant-loop-p : goal.invariant-loop-p
invariant-loop-p g l = HaveRoom g.J.Job.key_of (take l.p-index l.processors.items) l.rooms.items
