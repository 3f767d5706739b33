-- What becomes of parts that go to threads of their own.
use Rattle.std.specs.Prelude.{◌≡◌}
use Rattle.rcu_runtime_threads.specs.declared.crew.Started.{Started}
use Rattle.rcu_runtime_threads.specs.declared.crew.Started.TheVariants.{Running, Back}

module _ {X H P : Type 0} where
  -- The part has this thread, or is here, as far as it came.
  abbrev pub HasBegun : (H → X) → (X → P → Type 0) → X → Started H P → Type 0
  HasBegun of Stays part (Running thread) = of thread ≡ part
  HasBegun of Stays part (Back same) = Stays part same

module _ {H P : Type 0} where
  -- The part that the thread gave back, or that was here.
  abbrev pub HasEnded : (H → P → Type 0) → Started H P → P → Type 0
  HasEnded Keeps (Running thread) part = Keeps thread part
  HasEnded Keeps (Back same) part = part ≡ same
