use Rattle.rcu_part_lists.specs.ProcessorLists.{holding, rear_of}
use Rattle.rcu_part_lists.proofs.Holdings.{off-passes}
use Rattle.std.proofs.Common.{refl, subst, sym}
use Rattle.rcu_part_lists.proofs.Releases.{other}
use Rattle.rcu_lanes.specs.Ends.{SameRear}
use Rattle.rcu_part_lists.proofs.processor_lists.ProcessorLists.switch.Goals as goal

pub returns-else-on-clause-places : goal.returns-else-on-clause-places
returns-else-on-clause-places g c = off-passes c.args.accepted (holding c.args.self.now) (holding c.turn_off.new.self) c.turn_off.ensures.off

pub turn_on-requires : goal.turn_on-requires
turn_on-requires g c = assumption

pub turn_off-requires : goal.turn_off-requires
turn_off-requires g c = (assumption, c.requires)

pub returns-then-on-clause-on : goal.returns-then-on-clause-on
returns-then-on-clause-on g c = λ _. c.turn_on.ensures.on

pub returns-else-on-clause-off : goal.returns-else-on-clause-off
returns-else-on-clause-off g c = λ _. c.turn_off.ensures.off

pub returns-then-on-clause-lane : goal.returns-then-on-clause-lane
returns-then-on-clause-lane g c = c.turn_on.ensures.lane

pub returns-then-on-clause-advanced : goal.returns-then-on-clause-advanced
returns-then-on-clause-advanced g c = c.turn_on.ensures.advanced

pub returns-then-on-clause-off : goal.returns-then-on-clause-off
returns-then-on-clause-off g c = λ off. absurd (other c.args.on c.if-on.true off)

pub returns-then-on-clause-places : goal.returns-then-on-clause-places
returns-then-on-clause-places g c = c.turn_on.ensures.places

pub returns-else-on-clause-lane : goal.returns-else-on-clause-lane
returns-else-on-clause-lane g c = subst (SameRear (rear_of c.args.self.now)) (sym c.turn_off.ensures.rear) refl

pub returns-else-on-clause-advanced : goal.returns-else-on-clause-advanced
returns-else-on-clause-advanced g c = c.turn_off.ensures.advanced

pub returns-else-on-clause-on : goal.returns-else-on-clause-on
returns-else-on-clause-on g c = λ on. absurd (other c.args.on on c.if-on.false)
