-- A callback run in two steps, as one run of a tick: docs/specification/surface.md, "rcu_parts", `begin` and `finish`.
use Rattle.std.specs.Prelude.{ℕ, ◌≤◌}
use Rattle.rcu_board.specs.Views.{seen_at}
use Rattle.rcu_board.specs.Words.{turns_word}
use Rattle.rcu_part_processor.specs.Begins.{ClaimsFirst, FinishesProcessor}
use Rattle.rcu_part_processor.specs.Processors.{view_of}
use Rattle.rcu_part_processor.specs.Running.{SameBegun}
use Rattle.rcu_part_processor.specs.declared.processor.ProcessorState.{ProcessorState}
use Rattle.rcu_part_processor.specs.declared.running_processor.RunningProcessorState.{RunningProcessorState}

module _ {J R : Type 0} where
  -- The first callback of done was claimed at the board sight `seen`, as a begin does after its look; its job was handed out,
  -- and what it gave ended the claim.
  pub record RunsInTwoSteps (seen : ℕ) (p q : ProcessorState J R) : Type 0 where
    pub between : RunningProcessorState J R
    pub job : J
    pub receipt : R
    pub same : SameBegun p between
    pub claims : ClaimsFirst seen p between job
    pub finishes : FinishesProcessor receipt between q

  -- the processor's sight of its own turn word didn't fall
  abbrev pub NeverFallsBack : ProcessorState J R → ProcessorState J R → Type 0
  NeverFallsBack p q = seen_at (view_of p) (turns_word p.cpu) ≤ seen_at (view_of q) (turns_word p.cpu)
