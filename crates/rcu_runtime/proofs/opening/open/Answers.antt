use Rattle.std.specs.List.{range_with_len}
use Rattle.rcu_part_order.specs.declared.recorded.Kept.TheVariants.{Whole}
use Rattle.rcu_parts.proofs.KeptWhole.{opened_whole}
use Rattle.rcu_parts.specs.OneOpen.{parts_board}
use Rattle.rcu_runtime.proofs.Firsts.{first_limits, first_none}
use Rattle.rcu_lists.proofs.Outcomes.{if_ok_never}
use Rattle.rcu_runtime.proofs.opening.open.Goals as goal

pub invariant_of-result : goal.invariant_of-result
invariant_of-result g c = let e = c.in_ok-parts.ensures in record {
  close = record { one = e.one; sound = e.sound; keep = opened_whole c.args.shape.now c.in_ok-parts.parts e.opened };
  limits = first_limits c.args.shape.now Whole (parts_board c.in_ok-parts.parts) (range_with_len 0 (parts_board c.in_ok-parts.parts).processors) c.in_ok-parts.parts.processors.items e.opened.processors;
}

pub returns-clause-none : goal.returns-clause-none
returns-clause-none g c = first_none c.args.shape.now Whole (parts_board c.in_ok-parts.parts) (range_with_len 0 (parts_board c.in_ok-parts.parts).processors) c.in_ok-parts.parts.processors.items c.in_ok-parts.ensures.opened.processors

pub open-requires-send-J : goal.open-requires-send-J
open-requires-send-J g c κs within = c.type_bounds.send-J

pub open-requires-send-J-Receipt : goal.open-requires-send-J-Receipt
open-requires-send-J-Receipt g c κs within = c.type_bounds.send-J-Receipt

pub open-requires-after_bounds : goal.open-requires-after_bounds
open-requires-after_bounds g c κs within = assumption

pub returns-in_err-parts-clause-opened : goal.returns-in_err-parts-clause-opened
returns-in_err-parts-clause-opened g c = if_ok_never _ _ c.from_residual.ensures

pub returns-in_err-parts-clause-none : goal.returns-in_err-parts-clause-none
returns-in_err-parts-clause-none g c = if_ok_never _ _ c.from_residual.ensures

pub returns-clause-opened : goal.returns-clause-opened
returns-clause-opened g c = c.in_ok-parts.ensures.opened
