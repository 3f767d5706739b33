-- What a move of the driver and control does: that call, and what the barrier answered.
use Rattle.std.specs.Prelude.{◌≡◌, Option, Some, None, List, Result, Ok, Err}
use Rattle.rcu_part_control.specs.Barriers.{OpensBy, PollsBy}
use Rattle.rcu_part_control.specs.Control.{SwitchesBy}
use Rattle.rcu_part_control.specs.Driving.{DrivesBy}
use Rattle.rcu_part_control.specs.Parts.{control_board, control_view, driver_board, driver_view}
use Rattle.rcu_part_control.specs.declared.barrier.Barrier.{Barrier}
use Rattle.rcu_part_control.specs.declared.control.Control.{Control}
use Rattle.rcu_part_control.specs.declared.driver.Driver.{Driver}
use Rattle.rcu_jobs.specs.declared.Passed.{Passed}
use Rattle.rcu_jobs.specs.declared.SwitchFault.{SwitchFault}
use Rattle.rcu_jobs.specs.declared.answers.Ticket.{Ticket}
use Rattle.rcu_jobs.specs.declared.turns.DriverTurn.{DriverTurn}
use Rattle.test_parts.specs.declared.phases.phase.Move.{Move}
use Rattle.test_parts.specs.declared.phases.phase.Move.TheVariants as move
use Rattle.test_parts.specs.declared.phases.phase.Reply.{Reply}
use Rattle.test_parts.specs.declared.phases.phase.Reply.TheVariants as reply

-- A barrier was opened with these tickets and is the one that is open; or it was refused, and none is.
abbrev pub OpensAs : List Ticket → Reply → (after : Option Barrier) → Control → Control → Type 0
OpensAs tickets reply.Opened (Some barrier) c d = OpensBy (control_board c).processors tickets (Ok barrier) (control_view c) (control_view d)
OpensAs tickets (reply.Refused fault) None c d = OpensBy (control_board c).processors tickets (Err fault) (control_view c) (control_view d)
OpensAs tickets _ _ c d = ⊥

-- The barrier that is open was polled; or none is, and nothing was done.
abbrev pub PollsAs : Reply → Option Barrier → Control → Control → Type 0
PollsAs reply.Waits (Some barrier) c d = PollsBy barrier.counts None (control_view c) (control_view d)
PollsAs reply.Passed (Some barrier) c d = (passed : Passed) × PollsBy barrier.counts (Some passed) (control_view c) (control_view d)
PollsAs reply.NoBarrier None c d = d ≡ c
PollsAs _ _ c d = ⊥

-- a turn of the driver
abbrev pub Drives : Driver → Driver → Type 0
Drives d e = (turn : DriverTurn) × DrivesBy (driver_board d).processors turn (driver_view d) (driver_view e)

-- what a move does to the driver
abbrev pub MovesDriver : Move → Driver → Driver → Type 0
MovesDriver move.Drive d e = Drives d e
MovesDriver _ d e = e ≡ d

-- What a move does to control and to the barrier that is open, by what it answers.
abbrev pub MovesControl : Move → Option Reply → (before after : Option Barrier) → Control → Control → Type 0
MovesControl (move.Deoffload cpu) None before after c d = (after ≡ before) × ((result : Result (Unit {0}) SwitchFault) × SwitchesBy (control_board c) cpu 0 result (control_view c) (control_view d))
MovesControl (move.Open tickets) (Some reply) before after c d = OpensAs tickets.items reply after c d
MovesControl move.Poll (Some reply) before after c d = (after ≡ before) × PollsAs reply before c d
MovesControl move.Drive None before after c d = (after ≡ before) × (d ≡ c)
MovesControl (move.Sign signal) None before after c d = (after ≡ before) × (d ≡ c)
MovesControl _ _ before after c d = ⊥
