use Rattle.rcu_part_order.proofs.Moves.{placed_none, placed_accepts, placed_claims, placed_puts}
use Rattle.rcu_part_order.proofs.laws.places_of_a_processor.Goals as goal

pub returns-clause-none : goal.returns-clause-none
returns-clause-none c = placed_none

pub returns-clause-accepts : goal.returns-clause-accepts
returns-clause-accepts c = placed_accepts

pub returns-clause-claims : goal.returns-clause-claims
returns-clause-claims c = placed_claims

pub returns-clause-puts : goal.returns-clause-puts
returns-clause-puts c = placed_puts
