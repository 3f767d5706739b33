-- A job and its receipt may go to another thread, and the parts that are made of them fit in memory.
use Rattle.std.proofs.Common.{rules}
use Rattle.std.specs.Mem.{FitsInMemory}
use mathlib.Core.List.{[]}
use mir.Syntax.{tcons, tnil, ty_int, ty_struct, w64}
use denote.Exit.{no}
use denote.Param.{arg, param}
use denote.Param.Send.{IsSend}
use denote.RattleType.{RattleType}
use Rattle.rcu_c_slots.specs.contracts.job.ForeignJob as job
use Rattle.rcu_part_group.specs.contracts.group.Group as group
use Rattle.rcu_part_hand.specs.contracts.hand.Hand as hand
use Rattle.rcu_part_hand.specs.contracts.in_place.HandInPlace as hand_in_place
use Rattle.rcu_part_processor.specs.contracts.away.Away as away
use Rattle.rcu_part_processor.specs.contracts.processor.Processor as cpu
use Rattle.rcu_part_processor.specs.contracts.in_place.ProcessorInPlace as cpu_in_place

-- the job as it is given to code for any job
abbrev pub passed : RattleType
passed = arg (ty_struct [] (tcons (ty_int w64) (tcons (ty_int w64) (tcons (ty_int w64) tnil)))) no job.the_row

pub job_sends : IsSend (param 0 passed)
job_sends = search rules

pub receipt_sends : IsSend (param 1 passed)
receipt_sends = search rules

pub cpu_fits : FitsInMemory (cpu.the_row (param 0 job.the_row) (param 1 job.the_row))
cpu_fits = search rules

pub placed_cpu_fits : FitsInMemory (cpu_in_place.the_row (param 0 job.the_row) (param 1 job.the_row))
placed_cpu_fits = search rules

pub away_fits : FitsInMemory (away.the_row (param 0 job.the_row) (param 1 job.the_row))
away_fits = search rules

pub hand_fits : FitsInMemory (hand.the_row (param 0 job.the_row) (param 1 job.the_row))
hand_fits = search rules

pub placed_hand_fits : FitsInMemory (hand_in_place.the_row (param 0 job.the_row) (param 1 job.the_row))
placed_hand_fits = search rules

pub group_fits : FitsInMemory (group.the_row (param 0 job.the_row) (param 1 job.the_row))
group_fits = search rules
