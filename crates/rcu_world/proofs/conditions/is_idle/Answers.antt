use Rattle.std.proofs.Common.{ap, not}
use Rattle.rcu_world_processor.specs.Views.{seen}
use Rattle.rcu_world.proofs.Idling.{both_ways, idle_by, negated, not_fresh, not_hand, not_own}
use Rattle.rcu_world.proofs.Sizes.{never}
use Rattle.rcu_world.proofs.conditions.is_idle.Goals as goal

pub returns-then-is_fresh : goal.returns-then-is_fresh
returns-then-is_fresh g c = (λ e. never e, λ i. both_ways c.is_fresh.result c.if-is_fresh.true (not_fresh (seen g.J.Job.key_of c.args.processor.now) c.is_fresh.result c.is_fresh.ensures) i)

pub returns-then-can_finish : goal.returns-then-can_finish
returns-then-can_finish g c = (λ e. never e, λ i. both_ways c.can_finish.result c.if-can_finish.true (not_own (seen g.J.Job.key_of c.args.processor.now) c.can_finish.result c.can_finish.ensures) i)

pub returns : goal.returns
returns g c = (
  λ e. idle_by (seen g.J.Job.key_of c.args.processor.now) c.is_fresh.result c.can_finish.result c.can_finish-2.result c.is_fresh.ensures c.can_finish.ensures c.can_finish-2.ensures
      c.if-is_fresh.false c.if-can_finish.false (negated c.can_finish-2.result e),
  λ i. ap not (not_hand (seen g.J.Job.key_of c.args.processor.now) c.can_finish-2.result c.can_finish-2.ensures i),
)

pub is_fresh-requires-send-J : goal.is_fresh-requires-send-J
is_fresh-requires-send-J g c κs within = c.type_bounds.send-J

pub is_fresh-requires-send-J-Receipt : goal.is_fresh-requires-send-J-Receipt
is_fresh-requires-send-J-Receipt g c κs within = c.type_bounds.send-J-Receipt

pub is_fresh-requires-after_bounds : goal.is_fresh-requires-after_bounds
is_fresh-requires-after_bounds g c κs within = assumption

pub can_finish-requires-send-J : goal.can_finish-requires-send-J
can_finish-requires-send-J g c κs within = c.type_bounds.send-J

pub can_finish-requires-send-J-Receipt : goal.can_finish-requires-send-J-Receipt
can_finish-requires-send-J-Receipt g c κs within = c.type_bounds.send-J-Receipt

pub can_finish-requires-after_bounds : goal.can_finish-requires-after_bounds
can_finish-requires-after_bounds g c κs within = assumption

pub can_finish-requires-2-send-J : goal.can_finish-requires-2-send-J
can_finish-requires-2-send-J g c κs within = c.type_bounds.send-J

pub can_finish-requires-2-send-J-Receipt : goal.can_finish-requires-2-send-J-Receipt
can_finish-requires-2-send-J-Receipt g c κs within = c.type_bounds.send-J-Receipt

pub can_finish-requires-2-after_bounds : goal.can_finish-requires-2-after_bounds
can_finish-requires-2-after_bounds g c κs within = assumption
