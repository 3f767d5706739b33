-- The parts of a new runtime are for rising places.
use Rattle.std.proofs.Common.{ℕ, ◌≤◌, map, Result, Ok, Err, IfOk, sym, subst, arith}
use Rattle.std.specs.List.{range_with_len}
use Rattle.rcu_board.specs.Opened.{has_offloadable, is_offloadable, numbers_where}
use Rattle.rcu_numbers.specs.declared.parts_shape.PartsShape.{PartsShape}
use Rattle.rcu_c_slots.specs.Gathers.{ForeignParts}
use Rattle.rcu_c_slots.specs.Opens.{AreNew, AreRising, BoxesAll, OpensBoxes}
use Rattle.rcu_c_slots.specs.Processors.{ForeignCpu}
use Rattle.rcu_c_slots.specs.Runs.{ForeignHand}
use Rattle.rcu_c_slots.specs.declared.job.ForeignJob.{ForeignJob}
use Rattle.rcu_c_slots.specs.declared.opening.Boxes.{Boxes}
use Rattle.rcu_part_group.specs.declared.group.Group.{Group}
use Rattle.rcu_parts.specs.OneOpen.{groups_in, hands_in, parts_board, processors_in}
use Rattle.rcu_parts.specs.Openings.{IsFirstGroup, IsFirstHand, IsFirstProcessor, IsOpenedWith}
use Rattle.rcu_part_order.specs.declared.recorded.Kept.{Kept}
use Rattle.rcu_c_slots.proofs.Placing.{rising_range, rising_where, zip_numbers}

module _ (kept : Kept) (shape : PartsShape) (parts : ForeignParts) (o : IsOpenedWith kept shape parts) (end : ℕ) (few : shape.processors ≤ end) where
  pub rising_processors : AreRising 0 end (map (λ (p : ForeignCpu). p.state.cpu) (processors_in parts))
  rising_processors = let b = parts_board parts in let many = o.many in
      subst (AreRising 0 end) (sym (zip_numbers (IsFirstProcessor shape kept b) (λ (p : ForeignCpu). p.state.cpu) (λ k p f. f.part.cpu_is) (range_with_len 0 b.processors) (processors_in parts) o.processors))
      (rising_range 0 b.processors end (omega (arith, many, few)))

  pub rising_groups : AreRising 0 end (map (λ (g : Group ForeignJob ForeignJob). g.state.group) (groups_in parts))
  rising_groups = let b = parts_board parts in let many = o.many in let test = has_offloadable b.offloadable shape.stride b.processors in
      subst (AreRising 0 end) (sym (zip_numbers (IsFirstGroup shape b) (λ (g : Group ForeignJob ForeignJob). g.state.group) (λ k g f. f.part.group_is) (numbers_where test 0 b.processors) (groups_in parts) o.groups))
      (rising_where test 0 b.processors end (omega (arith, many, few)))

  pub rising_hands : AreRising 0 end (map (λ (h : ForeignHand). h.state.hand.cpu) (hands_in parts))
  rising_hands = let b = parts_board parts in let many = o.many in let test = is_offloadable b.offloadable in
      subst (AreRising 0 end) (sym (zip_numbers (IsFirstHand shape kept b) (λ (h : ForeignHand). h.state.hand.cpu) (λ k h f. f.part.cpu_is) (numbers_where test 0 b.processors) (hands_in parts) o.hands))
      (rising_where test 0 b.processors end (omega (arith, many, few)))

-- what was opened, and boxed
pub opens_boxes : {E : Type 0} (kept : Kept) (shape : PartsShape) (number : ℕ) (parts : ForeignParts) (r : Result Boxes E) → AreNew kept shape parts → IfOk r (λ boxes. BoxesAll number parts boxes) → IfOk r (λ boxes. OpensBoxes kept shape number boxes)
opens_boxes kept shape number parts (Ok boxes) new all = record { parts = parts; new = new; boxes_all = all }
opens_boxes kept shape number parts (Err e) new all = tt
