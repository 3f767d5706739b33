-- `poll`: each Turn not yet seen, in rising order of the processors, then Pass where all are seen. docs/specification/rules.md, "On the core"
use Rattle.std.specs.Prelude.{ℕ, ◌≡◌, ◌<◌, Bool, false, if◌then◌else◌, List, [], ◌∷◌, ◌++◌, length, Option, None, Some, slice_index, slice_index_or}
use Rattle.rcu_jobs.specs.declared.Passed.{Passed}
use Rattle.rcu_world_law.specs.declared.marks.Mark.TheVariants as marks
use Rattle.rcu_world_law.specs.Events.{CoreEvent}
use Rattle.rcu_world_law.specs.Events.CoreEvent.{Turn, Pass}
use Rattle.rcu_world_law.specs.States.{State, Barrier, barrier_at, count_at}
use Rattle.rcu_world_law.specs.Lists.{value_or}
use Rattle.rcu_world.specs.Turns.{and_then, upto, where_enabled}

-- whether a barrier has seen that a processor ran all that was counted
abbrev pub is_seen : State → ℕ → ℕ → Bool
is_seen w b p = slice_index_or (barrier_at w b).seen p false

abbrev pub turns_for : ℕ → ℕ → State → List CoreEvent
turns_for b p w = if is_seen w b p then [] else where_enabled (Turn b p) w

abbrev pub poll_events : ℕ → ℕ → State → List CoreEvent
poll_events b n = and_then (upto (turns_for b) n) (where_enabled (Pass b))

-- the counts of the first n processors that a barrier kept, 0 where it kept none
abbrev pub HasKept : Barrier → ℕ → List ℕ → Type 0
HasKept b n counts = (p : ℕ) → p < n → slice_index counts p ≡ value_or (count_at b p)

-- the counts that a barrier took, one of each of n processors
pub record AreTaken (b : Barrier) (n : ℕ) (many : ℕ) (counts : List ℕ) : Type 0 where
  pub all : many ≡ n
  pub each : (p : ℕ) → p < n → count_at b p ≡ Some (slice_index counts p)

-- What `poll` answers: the barrier passes in this call, and these are the counts that it took; or the history has no new mark.
abbrev pub IsPollAnswer : State → ℕ → State → Option Passed → Type 0
IsPollAnswer old b new None = new.history ≡ old.history
IsPollAnswer old b new (Some passed) = (new.history ≡ old.history ++ marks.Passed b ∷ []) × AreTaken (barrier_at new b) (length new.cpus) passed.counts.n passed.counts.counts
