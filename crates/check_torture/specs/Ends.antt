-- What a run keeps of all parts.
use Rattle.std.specs.Prelude.{ℕ}
use Rattle.std.specs.List.{AllZip}
use Rattle.rcu_part_processor.specs.Processors.{IsSound, SameProcessor}
use Rattle.rcu_parts.specs.OneOpen.{Parts, groups_in, hands_in, processors_in}
use Rattle.rcu_part_threads.specs.Parts.{GroupStays, HandStays}
use Rattle.check_torture.specs.Kept.{Cpu}
use Rattle.check_torture.specs.Retired.{IsVersion, version_of}
use Rattle.check_torture.specs.declared.retire.Retire.{Retire}
use Rattle.rcu_part_control.specs.Parts.{SameControl, SameDriver}

-- the same processor of its open, which knows of its jobs what it should if it did before
pub record CpuKeeps (p q : Cpu) : Type 0 where
  pub same : SameProcessor p.state q.state
  pub sound : IsSound version_of IsVersion p.state → IsSound version_of IsVersion q.state

-- All parts are the same parts of their open.
pub record HaveKept (old new : Parts Retire ℕ) : Type 0 where
  pub control : SameControl old.control new.control
  pub driver : SameDriver old.driver new.driver
  pub groups : AllZip GroupStays (groups_in old) (groups_in new)
  pub hands : AllZip (HandStays version_of IsVersion) (hands_in old) (hands_in new)
  pub processors : AllZip CpuKeeps (processors_in old) (processors_in new)
