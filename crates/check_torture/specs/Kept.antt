-- What is kept while a processor is driven: it stays the same part of its open, and as many callbacks are accepted as keys are
-- counted.
use Rattle.std.specs.Prelude.{◌≡◌, ℕ, ◌+◌, length}
use Rattle.rcu_part_control.specs.Parts.{SameControl}
use Rattle.rcu_part_processor.specs.Processors.{IsSound, SameProcessor}
use Rattle.rcu_part_processor.specs.declared.processor.Processor.{Processor}
use Rattle.check_torture.specs.Retired.{IsVersion, version_of}
use Rattle.check_torture.specs.declared.acts.Actor.{Actor}
use Rattle.check_torture.specs.declared.retire.Retire.{Retire}
use Rattle.check_torture.specs.declared.steerer.Steerer.{Steerer}

abbrev pub Cpu : Type 0
Cpu = Processor Retire ℕ

-- The same processor, which accepted as many callbacks as the count of keys rose from `before` to `after`, and knows of its jobs
-- what it should if it did before.
pub record Keeps (before after : ℕ) (p q : Cpu) : Type 0 where
  pub same : SameProcessor p.state q.state
  pub sound : IsSound version_of IsVersion p.state → IsSound version_of IsVersion q.state
  pub pace : q.state.accepted + before ≡ p.state.accepted + after

-- a call by which the processor accepted so many callbacks
abbrev pub Accepts : ℕ → Cpu → Cpu → Type 0
Accepts many p q = Keeps 0 many p q

-- what a thread's acts keep of its processor
abbrev pub GoesOn : Actor → Actor → Type 0
GoesOn old new = Keeps (length old.keys.items) (length new.keys.items) old.processor new.processor

-- what control's acts keep
abbrev pub Steers : Steerer → Steerer → Type 0
Steers old new = SameControl old.control new.control

-- what they keep that are no drain: no drain is counted
pub record SteersOn (old new : Steerer) : Type 0 where
  pub steers : Steers old new
  pub drained : new.counters.drained ≡ old.counters.drained
  pub many : new.processors ≡ old.processors
