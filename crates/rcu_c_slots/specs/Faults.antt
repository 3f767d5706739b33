-- The numbers of faults: docs/specification/surface.md, "Refusals by number", and docs/c.md, "Answers".
use Rattle.std.specs.Prelude.{ℕ}
use Rattle.rcu_jobs.specs.declared.SwitchFault.{SwitchFault}
use Rattle.rcu_jobs.specs.declared.SwitchFault.TheVariants as switch
use Rattle.rcu_jobs.specs.declared.Stop.{Stop}
use Rattle.rcu_jobs.specs.declared.Stop.TheVariants as stop
use Rattle.rcu_jobs.specs.declared.answers.Refused.{Refused}
use Rattle.rcu_jobs.specs.declared.answers.Refused.TheVariants as refused
use Rattle.rcu_c_slots.specs.declared.fault.Fault.{Fault}
use Rattle.rcu_c_slots.specs.declared.fault.Fault.TheVariants.{Spent, Memory, Closed, Limit, NotOffloadable, NoProcessor, Ahead, Empty, Other, Running, NotRunning, Full, Foreign, Shape, Few, Reading, NoneLeft, Turn, Again, Away, NotAway}

abbrev pub fault_number : Fault → ℕ
fault_number Spent = 1
fault_number Memory = 2
fault_number Closed = 3
fault_number Limit = 4
fault_number NotOffloadable = 5
fault_number NoProcessor = 6
fault_number Ahead = 7
fault_number Empty = 8
fault_number Other = 9
fault_number Running = 10
fault_number NotRunning = 11
fault_number Full = 12
fault_number Foreign = 13
fault_number Shape = 14
fault_number Few = 15
fault_number Reading = 16
fault_number NoneLeft = 17
fault_number Turn = 18
fault_number Again = 19
fault_number Away = 21
fault_number NotAway = 22

-- what a job's refusal is called
abbrev pub refusal : {J : Type 0} → Refused J → Fault
refusal (refused.Limit job) = Limit
refusal (refused.Memory job) = Memory
refusal (refused.Closed job) = Closed

abbrev pub switch_refusal : SwitchFault → Fault
switch_refusal (switch.NoProcessor p) = NoProcessor
switch_refusal (switch.NotOffloadable p) = NotOffloadable

-- why nothing was begun
abbrev pub stop_fault : Stop → Fault
stop_fault stop.Limit = Turn
stop_fault stop.Turn = Turn
stop_fault stop.Again = Again
stop_fault stop.Empty = NoneLeft
stop_fault stop.Memory = Memory
