-- That workers come back as themselves, and what each is once it has said how it ends.
use Rattle.std.specs.Prelude.{◌≡◌, ◌≢◌, ℕ, Some, map, slice_get}
use Rattle.std.specs.declared.alloc.Global.{Global}
use Rattle.std.specs.declared.vec.Vec.{Vec}
use Rattle.rcu_runtime_threads.specs.declared.worker.WorkerEnd.{WorkerEnd}
use Rattle.rcu_runtime_threads.specs.declared.worker.WorkerEnd.TheVariants as end
use Rattle.rcu_runtime_threads.specs.declared.worker.Step.{Step}
use Rattle.rcu_runtime_threads.specs.declared.worker.Step.TheVariants as step

-- The same workers, each in its place, by what they are known again.
abbrev pub AreSameWorkers : {W : Type 0} → (W → ℕ) → Vec W Global → Vec W Global → Type 0
AreSameWorkers name_of old new = map name_of new.items ≡ map name_of old.items

module _ {W : Type 0} (ends_as : WorkerEnd → W → Type 0) where
  -- Where it says by its step that it is done, or gives up, it is what it then is.
  abbrev pub EndsAs : {J : Type 0} → Step J → W → Type 0
  EndsAs s w = (s ≡ step.Done → ends_as end.Done w) × (s ≡ step.Fail → ends_as end.Failed w)

  -- Each worker that began and has ended is as it said, in its place.
  abbrev pub HaveEndedAs : Vec W Global → Vec WorkerEnd Global → Type 0
  HaveEndedAs workers ends = (k : ℕ) (w : W) (e : WorkerEnd) → slice_get workers.items k ≡ Some w → slice_get ends.items k ≡ Some e → e ≢ end.NotBegun → ends_as e w
