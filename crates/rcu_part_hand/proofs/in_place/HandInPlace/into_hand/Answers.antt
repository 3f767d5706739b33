use Rattle.rcu_part_hand.specs.InPlace.{resting}
use Rattle.rcu_part_hand.proofs.InPlace.{hand_once}
use Rattle.rcu_part_hand.proofs.in_place.HandInPlace.into_hand.Goals as goal

pub invariant_of-result : goal.invariant_of-result
invariant_of-result g c = record { lawful = c.args.self.state.rests c.requires.rests }

pub returns : goal.returns
returns g c = record { same = λ e. hand_once (resting c.args.self.state e) _ }
