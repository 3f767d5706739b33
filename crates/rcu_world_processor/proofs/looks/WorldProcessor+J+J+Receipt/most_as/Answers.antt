use Rattle.std.proofs.Common.{refl}
use Rattle.rcu_world_processor.proofs.looks.WorldProcessor+J+J+Receipt.most_as.Goals as goal

pub returns-then-not-member : goal.returns-then-not-member
returns-then-not-member g c = rw c.if-not-member.true refl

pub returns-in-None : goal.returns-in-None
returns-in-None g c = rw (c.if-not-member.false, c.in-None.is) refl

pub returns-in-Some : goal.returns-in-Some
returns-in-Some g c = rw (c.if-not-member.false, c.in-Some.is) c.max.ensures
