use Rattle.rcu_part_lists.proofs.hand.Held.into_parts.Goals as goal

pub returns-clause-order : goal.returns-clause-order
returns-clause-order g c = c.args.self.order

pub returns-clause-safe : goal.returns-clause-safe
returns-clause-safe g c = c.args.self.safe
