use Rattle.std.proofs.Common.{arith}
use Rattle.rcu_lists.proofs.bypass.Bypass.reserve.Goals as goal

pub returns-clause-none : goal.returns-clause-none
returns-clause-none g c = λ e. let room = c.args.self.now.roomy e in c.make_room.ensures.had (omega (arith, room))

pub make_room-requires : goal.make_room-requires
make_room-requires g c = assumption

pub returns-clause-same : goal.returns-clause-same
returns-clause-same g c = c.make_room.ensures.same

pub returns-clause-found : goal.returns-clause-found
returns-clause-found g c = c.make_room.ensures.found

pub returns-clause-had : goal.returns-clause-had
returns-clause-had g c = c.make_room.ensures.had
