-- What one call of a script leaves beside the runtime: docs/specification/surface.md, "After want of memory".
use Rattle.std.specs.Prelude.{◌≡◌, Bool, Result, IfOk}
use Rattle.check_memory.specs.declared.script.Action.{Action}
use Rattle.check_memory.specs.declared.script.Action.TheVariants.{Ask}
use Rattle.check_memory.specs.declared.steps.Progress.{Progress}

-- whether the offloadable processor was last asked to be offloaded, once this call is made
abbrev pub asked_after : Action → Bool → Bool
asked_after (Ask on) before = on
asked_after _ before = before

-- The call is made once: the runtime is as it may be between two calls, no refusal is noted, and what was last asked is kept.
pub record MakesOnce {M A E : Type 0} (holds : M → Type 0) (action : Action) (made : Result A E) (machine : M) (old new : Progress) : Type 0 where
  pub runtime : holds machine
  pub refusals : new.refusals ≡ old.refusals
  pub asked : IfOk made (λ _. new.asked_on ≡ asked_after action old.asked_on)
