-- What a step of a processor's seat asks for, and the lane that stays.
use Rattle.std.proofs.Common.{◌≡◌, refl, sym, subst}
use Rattle.rcu_board.specs.Seats.{AtBoard}
use Rattle.rcu_board.specs.declared.board.Board.{Board}
use Rattle.rcu_board.specs.declared.board.Seat.{Seat}
use Rattle.rcu_part_lists.specs.ProcessorLists.{rear_of}
use Rattle.rcu_part_lists.specs.declared.processor_lists.ProcessorLists.{ProcessorLists}
use Rattle.rcu_lanes.specs.Ends.{SameRear}

-- a seat is at its board, however the board was reached
pub stands : (b t : Board) (s : Seat) → t ≡ b → AtBoard b s → AtBoard t s
stands b t s e at = subst (λ (x : Board). AtBoard x s) (sym e) at

-- the same end of a lane is an end of the same lane
pub same_lane : {J : Type 0} → (a b : ProcessorLists J) → rear_of b ≡ rear_of a → SameRear (rear_of a) (rear_of b)
same_lane a b e = subst (SameRear (rear_of a)) (sym e) refl
