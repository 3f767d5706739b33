-- What a call makes of a processor: a step of the law (docs/specification/tables.md, "Events of the core"), and what stays
use Rattle.std.specs.Prelude.{◌≡◌, ℕ, Result, OnOk, OnErr}
use Rattle.rcu_world_law.specs.States.{Cpu}
use Rattle.rcu_world_processor.specs.declared.processor.WorldProcessor.{WorldProcessor}
use Rattle.rcu_world_processor.specs.Views.{seen, KeepsGiven}

-- The processor made this step, and what the law doesn't see stays so.
pub record Makes {J R : Type 0} (key_of : J → ℕ) (gives : ℕ → R → Type 0) (step : Cpu → Cpu) (old new : WorldProcessor J R) : Type 0 where
  pub made : seen key_of new ≡ step (seen key_of old)
  pub given : KeepsGiven gives old new

-- The processor made this step, where the call answers Ok. On an error nothing changed. What the law doesn't see stays so either way.
pub record MakesIfOk {J R A E : Type 0} (key_of : J → ℕ) (gives : ℕ → R → Type 0) (step : Cpu → Cpu) (result : Result A E) (old new : WorldProcessor J R) : Type 0 where
  pub ok : OnOk result (seen key_of new ≡ step (seen key_of old))
  pub err : OnErr result (seen key_of new ≡ seen key_of old)
  pub given : KeepsGiven gives old new
