use Rattle.rcu_board.specs.Views.{one_if_claim}
use Rattle.rcu_part_close.proofs.Gathers.{gather_claims, gather_sights, gather_tallies, gather_weight}
use Rattle.rcu_part_close.proofs.laws.gathering.Goals as goal

pub returns-clause-weights : goal.returns-clause-weights
returns-clause-weights c v ws = gather_weight v ws

pub returns-clause-claims : goal.returns-clause-claims
returns-clause-claims c p j v ws = gather_claims (one_if_claim p j) v ws

pub returns-clause-tallies : goal.returns-clause-tallies
returns-clause-tallies c i v ws = gather_tallies i v ws

pub returns-clause-sights : goal.returns-clause-sights
returns-clause-sights c n i v ws near grows long = gather_sights n i near grows v ws long
