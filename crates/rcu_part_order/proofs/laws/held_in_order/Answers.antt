use Rattle.rcu_part_order.proofs.Moves.{held_first, held_below, placed_all}
use Rattle.rcu_part_order.proofs.laws.held_in_order.Goals as goal

pub returns-clause-first : goal.returns-clause-first
returns-clause-first c = held_first

pub returns-clause-below : goal.returns-clause-below
returns-clause-below c = held_below

pub returns-clause-all : goal.returns-clause-all
returns-clause-all c = placed_all
