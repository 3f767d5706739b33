-- What a step of the processors' thread does: that call of its processor, and what the call answered.
use Rattle.std.specs.Prelude.{◌≡◌, ℕ, List, slice_index_or, slice_set}
use Rattle.rcu_jobs.specs.Refusals.{number_of}
use Rattle.rcu_jobs.specs.declared.answers.Refused.{Refused}
use Rattle.rcu_lists.specs.declared.pace.Kind.{Kind}
use Rattle.rcu_lists.specs.declared.pace.Kind.TheVariants.{Lazy, Plain}
use Rattle.rcu_part_processor.specs.Calls.{IsAccepted, IsRefusedAs, KeepsAll}
use Rattle.rcu_part_processor.specs.Processors.{view_of}
use Rattle.rcu_part_processor.specs.Ticks.{TicksBy}
use Rattle.rcu_part_processor.specs.declared.processor.Processor.{Processor}
use Rattle.rcu_part_processor.specs.declared.processor.ProcessorState.{ProcessorState}
use Rattle.rcu_part_steps.specs.Reports.{Reports}
use Rattle.test_parts.specs.declared.phases.phase.Act.{Act}
use Rattle.test_parts.specs.declared.phases.phase.Act.TheVariants as act
use Rattle.test_parts.specs.declared.phases.phase.Answer.{Answer}
use Rattle.test_parts.specs.declared.phases.phase.Answer.TheVariants as answer

module _ {J R : Type 0} where
  -- The job was refused, for a reason of this number, and nothing was accepted.
  pub record RefusesBy (number : ℕ) (job : J) (p q : ProcessorState J R) : Type 0 where
    pub refused : Refused J
    pub numbered : number ≡ number_of refused
    pub why : IsRefusedAs job refused p q
    pub keeps : KeepsAll p q

  -- a call of this kind at this moment, by its answer
  abbrev pub CallsBy : (J → ℕ) → (moment : ℕ) → Kind → J → Answer → ProcessorState J R → ProcessorState J R → Type 0
  CallsBy key_of moment kind job (answer.Accepted t) p q = IsAccepted moment kind (key_of job) job t p q
  CallsBy key_of moment kind job (answer.Refused number) p q = RefusesBy number job p q
  CallsBy key_of moment kind job _ p q = ⊥

  -- Each step is that call of the processor, and what is answered is what the call answered.
  abbrev pub Acts : (J → ℕ) → Act J → Answer → ProcessorState J R → ProcessorState J R → Type 0
  Acts key_of (act.Call moment job) answer p q = CallsBy key_of moment Plain job answer p q
  Acts key_of (act.Lazy moment job) answer p q = CallsBy key_of moment Lazy job answer p q
  Acts key_of act.Report (answer.Reported counted) p q = Reports p.cpu counted (view_of p) (view_of q) × KeepsAll p q
  Acts key_of (act.Tick moment) (answer.Ticked ticked) p q = TicksBy moment ticked p q
  Acts key_of _ _ p q = ⊥

  -- It is that call of processor cpu, and the others are as they were.
  pub record ActsAt (key_of : J → ℕ) (cpu : ℕ) (act : Act J) (answer : Answer) (old new : List (Processor J R)) : Type 0 where
    pub before : Processor J R
    pub after : Processor J R
    pub is : before ≡ slice_index_or old cpu before
    pub acts : Acts key_of act answer before.state after.state
    pub others : new ≡ slice_set old cpu after
