-- Why there is no picture, where clap refuses the words.
use Rattle.std.specs.Prelude.{◌≡◌, ◌≢◌}
use Rattle.clap.specs.Words.{kind_of}
use Rattle.clap.specs.declared.error.Error.{Error}
use Rattle.clap.specs.declared.error.ErrorKind.TheVariants.{OutOfMemory}
use Rattle.rcuo_picture.specs.declared.words.Refusal.{Refusal}
use Rattle.rcuo_picture.specs.declared.words.Refusal.TheVariants.{Fault, Words}
use Rattle.rcuo_script.specs.declared.fault.Fault.TheVariants.{Setup}
use Rattle.rcu_setup.specs.declared.fault.SetupFault.TheVariants.{Memory}

-- want of memory is said as that, and every other error as it is
pub record Refuses (error : Error) (refusal : Refusal) : Type 0 where
  pub memory : kind_of error ≡ OutOfMemory → refusal ≡ Fault (Setup Memory)
  pub words : kind_of error ≢ OutOfMemory → refusal ≡ Words error
