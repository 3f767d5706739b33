-- A new board for one processor, and the two seats of it that step in a row.
use Rattle.std.specs.Prelude.{◌≡◌, []}
use Rattle.rcu_numbers.specs.Words.{owes_of}
use Rattle.rcu_board.specs.Opened.{IsNewProcessor}
use Rattle.rcu_board.specs.Roles.{MayClaim}
use Rattle.rcu_board.specs.Seats.{view, AtBoard}
use Rattle.rcu_board.specs.declared.board.Board.{Board}
use Rattle.rcu_board.specs.declared.board.Role.TheVariants.{Driver, Control}
use Rattle.rcu_board.specs.declared.board.Seat.{Seat}
use Rattle.bench_board.specs.declared.seats.OneOfEach.{OneOfEach}
use Rattle.bench_board.specs.declared.seats.Pair.{Pair}
use Rattle.bench_board.specs.declared.seats.Pair.TheVariants as pairs

-- the board is for one processor, which is offloadable, and these are its seats
pub record AreOneOfEach (b : Board) (each : OneOfEach) : Type 0 where
  pub one : b.processors ≡ 1
  pub offloadable : owes_of b.offloadable 0 ≡ 1
  pub processor : IsNewProcessor b 0 each.processor
  pub hand : AtBoard b each.hand
  pub claims : MayClaim each.hand.role
  pub rests : (view each.hand).running ≡ []
  pub driver : AtBoard b each.driver
  pub drives : each.driver.role ≡ Driver
  pub control : AtBoard b each.control
  pub controls : each.control.role ≡ Control

-- the seat that is measured, and the one that steps beside it
abbrev pub pair_of : OneOfEach → Pair → Seat × Seat
pair_of each pairs.ProcessorHand = (each.processor, each.hand)
pair_of each pairs.ProcessorDriver = (each.processor, each.driver)
pair_of each pairs.ProcessorControl = (each.processor, each.control)
pair_of each pairs.DriverProcessor = (each.driver, each.processor)
pair_of each pairs.DriverControl = (each.driver, each.control)
pair_of each pairs.ControlProcessor = (each.control, each.processor)
pair_of each pairs.ControlHand = (each.control, each.hand)
pair_of each pairs.ControlDriver = (each.control, each.driver)
