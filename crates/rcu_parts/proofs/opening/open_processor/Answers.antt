use Rattle.std.proofs.Common.{◌<◌, sym, subst, ◌∙◌, ap}
use Rattle.std.specs.Arc.{arc_value}
use Rattle.std.specs.Mem.{FitsInMemory}
use denote.Param.{param}
use Rattle.rcu_board.specs.Opened.{IsNewProcessor, is_offloadable}
use Rattle.rcu_board.specs.declared.board.Board.{Board}
use Rattle.rcu_part_lists.proofs.Sizes.{in_struct}
use Rattle.rcu_part_lists.specs.ProcessorLists.{rear_of}
use Rattle.rcu_part_lists.specs.declared.processor_lists.ProcessorLists.{ProcessorLists}
use Rattle.rcu_lanes.specs.Ends.{IsNewLane}
use Rattle.rcu_part_processor.specs.contracts.processor.Processor as row
use Rattle.rcu_part_processor.proofs.Beginnings.{offloads_at}
use Rattle.rcu_parts.proofs.Openings.{first_empty, first_processor}
use Rattle.rcu_lists.proofs.Outcomes.{if_ok_never}
use Rattle.rcu_parts.proofs.opening.open_processor.Goals as goal

pub new-requires : goal.new-requires
new-requires g c = let h : FitsInMemory (row.the_row (param 0 g.row.J) (param 1 g.row.J-Receipt)) = assumption in (in_struct _ _ _ (in_struct _ _ _ h), c.in_ok-front.ensures.none_put)

pub new-processor-requires-after_bounds : goal.new-processor-requires-after_bounds
new-processor-requires-after_bounds g c κs within =
    let h : FitsInMemory (row.the_row (param 0 g.row.J) (param 1 g.row.J-Receipt)) = assumption in
    let same = c.in_ok-own.ensures in (
      in_struct _ _ _ (in_struct _ _ _ h),
      (
        h,
        (
          subst (λ (b : Board). IsNewProcessor b c.args.cpu c.args.seat) (sym same) c.requires.seat,
          (
            subst (λ (b : Board). c.args.cpu < b.processors) (sym same) c.requires.there,
            first_empty c.is_offloadable-offloadable.result _ c.args.shape.now.qhimark c.in_ok-lists.lists c.in_ok-lists.ensures.empty (offloads_at (arc_value c.args.board.now) c.deref.result.now c.deref.ensures c.is_offloadable-offloadable.result c.args.cpu c.is_offloadable-offloadable.ensures ∙ ap (λ (b : Board). is_offloadable b.offloadable c.args.cpu) (sym same)),
          ),
        ),
      ),
    )

pub returns-clause-processor : goal.returns-clause-processor
returns-clause-processor g c = first_processor c.args.shape.now c.args.kept (arc_value c.in_ok-own.own) (arc_value c.args.board.now) c.args.cpu c.args.seat c.in_ok-lists.lists c.new-processor.result c.is_offloadable-offloadable.result c.in_ok-own.ensures c.requires.seat c.in_ok-lists.ensures.empty (offloads_at (arc_value c.args.board.now) c.deref.result.now c.deref.ensures c.is_offloadable-offloadable.result c.args.cpu c.is_offloadable-offloadable.ensures) c.new-processor.ensures.new

pub returns-clause-lane : goal.returns-clause-lane
returns-clause-lane g c = subst (IsNewLane c.in_ok-front.front) (sym (ap (λ (l : ProcessorLists g.row.J.Denot). rear_of l) c.new-processor.ensures.new.lists_are ∙ c.in_ok-lists.ensures.rear)) c.in_ok-front.ensures

pub returns-in_err-front : goal.returns-in_err-front
returns-in_err-front g c = let e = c.from_residual.ensures in record { processor = if_ok_never _ _ e; lane = if_ok_never _ _ e }

pub returns-in_err-lists : goal.returns-in_err-lists
returns-in_err-lists g c = let e = c.from_residual-in_err-lists.ensures in record { processor = if_ok_never _ _ e; lane = if_ok_never _ _ e }

pub returns-in_err-own : goal.returns-in_err-own
returns-in_err-own g c = let e = c.from_residual-in_err-own.ensures in record { processor = if_ok_never _ _ e; lane = if_ok_never _ _ e }

pub drop-lists-requires : goal.drop-lists-requires
drop-lists-requires g c = let h : FitsInMemory (row.the_row (param 0 g.row.J) (param 1 g.row.J-Receipt)) = assumption in in_struct _ _ _ (in_struct _ _ _ h)

pub new-processor-requires-send-J : goal.new-processor-requires-send-J
new-processor-requires-send-J g c κs within = c.type_bounds.send-J

pub new-processor-requires-send-J-Receipt : goal.new-processor-requires-send-J-Receipt
new-processor-requires-send-J-Receipt g c κs within = c.type_bounds.send-J-Receipt
