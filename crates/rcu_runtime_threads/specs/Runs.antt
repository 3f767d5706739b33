-- What a run in threads does to a whole runtime.
use Rattle.std.specs.Prelude.{◌≡◌, ℕ, Some, slice_get, vec_len}
use Rattle.std.specs.List.{AllZip}
use Rattle.std.specs.declared.alloc.Global.{Global}
use Rattle.std.specs.declared.vec.Vec.{Vec}
use Rattle.rcu_parts.specs.OneOpen.{Parts, groups_in, hands_in, processors_in}
use Rattle.rcu_runtime_threads.specs.Stays.{GroupStays, HandStays}
use Rattle.rcu_runtime_threads.specs.Steps.{ProcessorWorks}
use Rattle.rcu_runtime_threads.specs.declared.worker.WorkerEnd.{WorkerEnd}
use Rattle.rcu_runtime_threads.specs.declared.worker.WorkerEnd.TheVariants.{NotBegun}
use Rattle.rcu_part_control.specs.Parts.{SameControl, SameDriver}

module _ {J R : Type 0} where
  -- Each part is the same part, as far as its thread brought it.
  pub record HaveWorked (key_of : J → ℕ) (gives : ℕ → R → Type 0) (old new : Parts J R) : Type 0 where
    pub control : SameControl old.control new.control
    pub driver : SameDriver old.driver new.driver
    pub processors : AllZip (ProcessorWorks key_of gives) (processors_in old) (processors_in new)
    pub groups : AllZip GroupStays (groups_in old) (groups_in new)
    pub hands : AllZip (HandStays key_of gives) (hands_in old) (hands_in new)

-- As many workers come back as were handed in, each with how it ended.
pub record ComeBack {W : Type 0} (old new : Vec W Global) (said : Vec WorkerEnd Global) : Type 0 where
  pub workers : vec_len new ≡ vec_len old
  pub ends : vec_len said ≡ vec_len old

-- A worker that made no step comes back as it was, in its place.
abbrev pub KeepsUnbegun : {W : Type 0} → Vec W Global → Vec W Global → Vec WorkerEnd Global → Type 0
KeepsUnbegun old new said = (k : ℕ) → slice_get said.items k ≡ Some NotBegun → slice_get new.items k ≡ slice_get old.items k
