-- Why there is no plan, where clap refuses the words.
use Rattle.std.specs.Prelude.{◌≡◌, ◌≢◌}
use Rattle.clap.specs.Words.{kind_of}
use Rattle.clap.specs.declared.error.Error.{Error}
use Rattle.clap.specs.declared.error.ErrorKind.TheVariants.{OutOfMemory}
use Rattle.check_torture.specs.declared.plan.Refusal.{Refusal}
use Rattle.check_torture.specs.declared.plan.Refusal.TheVariants.{Memory, Words}

-- want of memory is said as that, and every other error as it is
pub record Refuses (error : Error) (refusal : Refusal) : Type 0 where
  pub memory : kind_of error ≡ OutOfMemory → refusal ≡ Memory
  pub words : kind_of error ≢ OutOfMemory → refusal ≡ Words error
