-- A processor's part before any step.
use Rattle.std.specs.Prelude.{◌≡◌, ℕ, Bool, []}
use Rattle.rcu_numbers.specs.declared.parts_shape.PartsShape.{PartsShape}
use Rattle.rcu_board.specs.Opened.{is_offloadable}
use Rattle.rcu_board.specs.declared.board.Board.{Board}
use Rattle.rcu_board.specs.declared.board.Seat.{Seat}
use Rattle.rcu_part_lists.specs.ProcessorLists.{holding, put_by}
use Rattle.rcu_jobs.specs.Modes.{first_mode}
use Rattle.rcu_part_lists.specs.declared.processor_lists.ProcessorLists.{ProcessorLists}
use Rattle.rcu_part_order.specs.declared.recorded.Kept.{Kept}
use Rattle.rcu_part_processor.specs.Processors.{board_of, seat_of, records_of}
use Rattle.rcu_part_processor.specs.declared.processor.ProcessorState.{ProcessorState}

-- nothing was put on the lane, nothing is held, and no look was made; an offloadable processor is Offloaded, else it is Local
pub record IsEmpty {J : Type 0} (offloadable : Bool) (lists : ProcessorLists J) : Type 0 where
  pub mode : (holding lists).mode ≡ first_mode offloadable
  pub put : put_by (holding lists) ≡ []
  pub bypass : (holding lists).outgoing.bypass ≡ []
  pub own : (holding lists).own ≡ []
  pub looked : (holding lists).advanced ≡ 0

-- processor cpu of a board, with its seat and its lists: it accepted nothing, passed no grace period, and keeps what it runs so
pub record IsNew {J R : Type 0} (shape : PartsShape) (b : Board) (cpu : ℕ) (s : Seat) (lists : ProcessorLists J) (kept : Kept) (p : ProcessorState J R) : Type 0 where
  pub board : board_of p ≡ b
  pub seat : seat_of p ≡ s
  pub lists_are : p.lists ≡ lists
  pub cpu_is : p.cpu ≡ cpu
  pub offloadable : p.offloadable ≡ is_offloadable b.offloadable cpu
  pub limit : p.limit ≡ shape.limit
  pub blimit : p.blimit ≡ shape.blimit
  pub accepted : p.accepted ≡ 0
  pub passed : p.passed ≡ 0
  pub ran : records_of p ≡ record { kept = kept; all = []; gone = 0 }
