-- What control does in a run of all processors: docs/specification/program.md, "threads".
use Rattle.std.specs.Prelude.{◌≡◌, ◌⊎◌, List, Result, Ok, Err}
use Rattle.rcu_board.specs.Plays.{touched}
use Rattle.rcu_board.specs.Words.{halt_word, turns_word}
use Rattle.rcu_part_control.specs.Barriers.{IsOver, OpensBy}
use Rattle.rcu_part_control.specs.Parts.{control_board, control_view}
use Rattle.rcu_board.specs.Frames.{StepsWithin}
use Rattle.rcu_part_control.specs.declared.barrier.Barrier.{Barrier}
use Rattle.rcu_part_control.specs.declared.control.Control.{Control}
use Rattle.rcu_part_threads.specs.declared.fault.ThreadsFault.{ThreadsFault}
use Rattle.rcu_jobs.specs.declared.BarrierFault.{BarrierFault}
use Rattle.rcu_jobs.specs.declared.answers.Ticket.{Ticket}

-- a barrier was opened with these tickets, or refused
abbrev pub Opens : List Ticket → Result Barrier BarrierFault → Control → Control → Type 0
Opens tickets result c d = OpensBy (control_board c).processors tickets result (control_view c) (control_view d)

-- A barrier was opened with these tickets, and has passed, for which control read turn words and made no other step.
pub record PassesFor (tickets : List Ticket) (c d : Control) : Type 0 where
  pub barrier : Barrier
  pub between : Control
  pub opens : Opens tickets (Ok barrier) c between
  pub over : IsOver barrier.counts (control_view d)
  pub only : StepsWithin turns_word barrier.counts.n (control_view between) (control_view d)

-- A barrier with these tickets has passed; or it was refused, or none was opened.
abbrev pub PassesBy : Result (Unit {0}) ThreadsFault → List Ticket → Control → Control → Type 0
PassesBy (Ok done) tickets c d = PassesFor tickets c d
PassesBy (Err fault) tickets c d = (d ≡ c) ⊎ ((why : BarrierFault) × Opens tickets (Err why) c d)

-- After that the halt word was set, and nothing else was done.
pub record HaltsAfter (Before : Control → Type 0) (d : Control) : Type 0 where
  pub between : Control
  pub before : Before between
  pub halts : control_view d ≡ touched halt_word 1 (control_view between)

-- One barrier has passed, and then the halt word was set.
abbrev pub PassesAndHalts : Control → Control → Type 0
PassesAndHalts c d = (tickets : List Ticket) × HaltsAfter (PassesFor tickets c) d

-- Nothing was done; or the halt word was set, after a barrier that has passed, or was refused, or after none.
abbrev pub BreaksOff : Control → Control → Type 0
BreaksOff c d = (d ≡ c) ⊎ ((result : Result (Unit {0}) ThreadsFault) × (tickets : List Ticket) × HaltsAfter (PassesBy result tickets c) d)
