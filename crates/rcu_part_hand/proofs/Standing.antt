-- What a step of a hand's seat asks for, and the lane that stays.
use Rattle.std.proofs.Common.{◌≡◌, refl, sym, subst}
use Rattle.rcu_board.specs.Seats.{AtBoard}
use Rattle.rcu_board.specs.declared.board.Board.{Board}
use Rattle.rcu_board.specs.declared.board.Seat.{Seat}
use Rattle.rcu_part_lists.specs.Helds.{front_of}
use Rattle.rcu_part_lists.specs.declared.hand.Held.{Held}
use Rattle.rcu_lanes.specs.Ends.{SameFront}

-- a seat is at its board, however the board was reached
pub stands : (b t : Board) (s : Seat) → t ≡ b → AtBoard b s → AtBoard t s
stands b t s e at = subst (λ (x : Board). AtBoard x s) (sym e) at

-- the same end of a lane is an end of the same lane
pub same_lane : {J : Type 0} → (a b : Held J) → front_of b ≡ front_of a → SameFront (front_of a) (front_of b)
same_lane a b e = subst (SameFront (front_of a)) (sym e) refl
