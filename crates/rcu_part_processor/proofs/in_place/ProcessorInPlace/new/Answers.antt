use Rattle.std.proofs.Common.{◌≡◌, None, Some, ◌∙◌, sym, refl}
use Rattle.std.specs.Mem.{FitsInMemory}
use denote.Param.{param}
use Rattle.rcu_part_lists.proofs.Sizes.{in_struct}
use Rattle.rcu_part_processor.proofs.InPlace.{processor_once}
use Rattle.rcu_part_processor.specs.contracts.processor.Processor as row
use Rattle.rcu_part_processor.proofs.in_place.ProcessorInPlace.new.Goals as goal

pub into_state-board-requires-after_bounds : goal.into_state-board-requires-after_bounds
into_state-board-requires-after_bounds g c κs within = let h : FitsInMemory (row.the_row (param 0 g.row.J) (param 1 g.row.J-Receipt)) = assumption in (h, in_struct _ _ _ h)

pub invariant_of-state : goal.invariant_of-state
invariant_of-state g c = let s = c.into_state-board.result in record {
  here = s.here;
  role = s.role;
  there = s.there;
  bit = s.bit;
  local = s.local;
  small = s.small;
  since = s.since;
  rests = λ r. s.lawful;
  runs = λ k f. (let x : None ≡ Some k = f in cc);
}

pub returns-clause-same : goal.returns-clause-same
returns-clause-same g c = λ e. sym (processor_once c.into_state-board.result _ _ _ _ _ _ _ _) ∙ c.into_state-board.ensures

pub into_state-board-requires-send-J : goal.into_state-board-requires-send-J
into_state-board-requires-send-J g c κs within = c.type_bounds.send-J

pub into_state-board-requires-send-J-Receipt : goal.into_state-board-requires-send-J-Receipt
into_state-board-requires-send-J-Receipt g c κs within = c.type_bounds.send-J-Receipt

pub returns-clause-rests : goal.returns-clause-rests
returns-clause-rests g c = refl
