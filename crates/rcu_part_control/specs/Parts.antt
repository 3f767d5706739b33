-- What contracts see of the driver and of control.
use Rattle.std.specs.Arc.{arc_value}
use Rattle.rcu_board.specs.Seats.{view}
use Rattle.rcu_board.specs.declared.board.Board.{Board}
use Rattle.rcu_board.specs.declared.board.Seat.{Seat}
use Rattle.rcu_board.specs.declared.view.View.{View}
use Rattle.rcu_board.specs.Frames.{SamePart}
use Rattle.rcu_part_control.specs.declared.driver.Driver.{Driver}
use Rattle.rcu_part_control.specs.declared.control.Control.{Control}

abbrev pub driver_board : Driver → Board
driver_board d = arc_value d.board

abbrev pub driver_seat : Driver → Seat
driver_seat d = d.seat

abbrev pub driver_view : Driver → View
driver_view d = view d.seat

abbrev pub control_board : Control → Board
control_board c = arc_value c.board

abbrev pub control_seat : Control → Seat
control_seat c = c.seat

abbrev pub control_view : Control → View
control_view c = view c.seat

-- the same driver of its open
abbrev pub SameDriver : Driver → Driver → Type 0
SameDriver d e = SamePart (driver_board d) (driver_board e) (driver_seat d) (driver_seat e)

-- the same control of its open
abbrev pub SameControl : Control → Control → Type 0
SameControl c d = SamePart (control_board c) (control_board d) (control_seat c) (control_seat d)
