use Rattle.std.proofs.Common.{refl}
use Rattle.rcu_parts.proofs.closing.close.Goals as goal

pub find-requires : goal.find-requires
find-requires g c = assumption

pub returns-in_default-clause-left : goal.returns-in_default-clause-left
returns-in_default-clause-left g c = refl

pub close_in-requires-send-J : goal.close_in-requires-send-J
close_in-requires-send-J g c κs within = c.type_bounds.send-J

pub close_in-requires-send-J-Receipt : goal.close_in-requires-send-J-Receipt
close_in-requires-send-J-Receipt g c κs within = c.type_bounds.send-J-Receipt

pub returns-clause-accounts : goal.returns-clause-accounts
returns-clause-accounts g c = c.close_in.ensures.accounts

pub returns-clause-closes : goal.returns-clause-closes
returns-clause-closes g c = c.close_in.ensures.closes
