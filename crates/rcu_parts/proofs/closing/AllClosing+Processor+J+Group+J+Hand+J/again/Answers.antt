use Rattle.rcu_parts.proofs.closing.AllClosing+Processor+J+Group+J+Hand+J.again.Goals as goal

pub close-requires-send-J : goal.close-requires-send-J
close-requires-send-J g c κs within = c.type_bounds.send-J

pub close-requires-send-J-Receipt : goal.close-requires-send-J-Receipt
close-requires-send-J-Receipt g c κs within = c.type_bounds.send-J-Receipt

pub returns-clause-accounts : goal.returns-clause-accounts
returns-clause-accounts g c = c.close.ensures.accounts

pub returns-clause-closes : goal.returns-clause-closes
returns-clause-closes g c = c.close.ensures.closes

pub returns-clause-left : goal.returns-clause-left
returns-clause-left g c = c.close.ensures.left
