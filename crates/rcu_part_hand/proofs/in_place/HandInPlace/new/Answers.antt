use Rattle.std.proofs.Common.{◌≡◌, None, Some, ◌∙◌, sym}
use Rattle.std.specs.Mem.{FitsInMemory}
use denote.Param.{param}
use Rattle.rcu_part_lists.proofs.Sizes.{in_struct}
use Rattle.rcu_part_hand.proofs.InPlace.{hand_once}
use Rattle.rcu_part_hand.specs.contracts.hand.Hand as row
use Rattle.rcu_part_hand.proofs.in_place.HandInPlace.new.Goals as goal

pub into_state-hand-requires-after_bounds : goal.into_state-hand-requires-after_bounds
into_state-hand-requires-after_bounds g c κs within = let h : FitsInMemory (row.the_row (param 0 g.row.J) (param 1 g.row.J-Receipt)) = assumption in (h, in_struct _ _ _ h)

pub invariant_of-state : goal.invariant_of-state
invariant_of-state g c = let s = c.into_state-hand.result in record {
  rests = λ r. s.lawful;
  runs = λ k f. (let x : None ≡ Some k = f in cc);
}

pub returns-clause-same : goal.returns-clause-same
returns-clause-same g c = λ e. sym (hand_once c.into_state-hand.result _) ∙ c.into_state-hand.ensures
