-- What words say, as include/rcuo.h has them.
use Rattle.std.specs.Prelude.{◌≡◌, ℕ, ◌+◌, ◌*◌, ◌<◌, ◌==◌, ⊤, Bool, cond, slice_index}
use Rattle.rcu_numbers.specs.Sets.{number_of_words}
use Rattle.rcu_numbers.specs.Words.{all_of}
use Rattle.rcu_numbers.specs.declared.shape.TheConstants.{MOST_CALLS}
use Rattle.rcu_jobs.specs.declared.Counts.{Counts}
use Rattle.rcu_jobs.specs.declared.DriverTurn.{DriverTurn}
use Rattle.rcu_jobs.specs.declared.DriverTurn.TheVariants.{Ended, Idle, Spent, Started, Waits}
use Rattle.rcu_jobs.specs.declared.Lists.{Lists}
use Rattle.rcu_jobs.specs.declared.Lists.TheVariants.{Cpu, Folk}
use Rattle.rcu_jobs.specs.declared.modes.Mode.{Mode}
use Rattle.rcu_jobs.specs.declared.modes.Mode.TheVariants.{Deoffloading, Local, Offloaded, Offloading}
use Rattle.rcu_jobs.specs.declared.callback.Record.{Record}
use Rattle.rcu_c_slots.specs.declared.job.ForeignJob.{ForeignJob}
use Rattle.rcu_c.specs.declared.words.CountWords.{CountWords}
use Rattle.rcu_c.specs.declared.words.DriverWords.{DriverWords}
use Rattle.rcu_c.specs.declared.words.ListWords.{ListWords}
use Rattle.rcu_c.specs.declared.words.RecordWords.{RecordWords}
use Rattle.rcu_c.specs.declared.words.Settings.{Settings}
use Rattle.rcu_numbers.specs.declared.parts_shape.PartsShape.{PartsShape}
use Rattle.rcu_part_order.specs.declared.recorded.Kept.{Kept}
use Rattle.rcu_part_order.specs.declared.recorded.Kept.TheVariants.{Nothing, Whole}

-- `enum rcuo_step`, with the number or the mask
abbrev pub AreTurnWords : DriverTurn → DriverWords → Type 0
AreTurnWords Idle w = (w.step ≡ 0) × (w.number ≡ 0)
AreTurnWords (Started n) w = (w.step ≡ 1) × (w.number ≡ n)
AreTurnWords (Ended n) w = (w.step ≡ 2) × (w.number ≡ n)
AreTurnWords (Waits processor) w = (w.step ≡ 3) × (w.number ≡ processor)
AreTurnWords Spent w = ⊤

-- the offloadable processors: all that there are, or those of the words
abbrev pub offloadable_of : Settings → ℕ
offloadable_of s = cond s.all (all_of s.processors) (number_of_words s.offloadable)

-- how many callbacks a processor accepts: where the setting is 0, as many as can be counted
abbrev pub limit_of : Settings → ℕ
limit_of s = cond (s.limit == 0) MOST_CALLS s.limit

-- the shape of `struct rcuo_settings`
pub record IsShapeOf (settings : Settings) (shape : PartsShape) : Type 0 where
  pub processors : shape.processors ≡ settings.processors
  pub offloadable : shape.offloadable ≡ offloadable_of settings
  pub stride : shape.stride ≡ settings.stride
  pub blimit : shape.blimit ≡ settings.blimit
  pub qhimark : shape.qhimark ≡ settings.qhimark
  pub limit : shape.limit ≡ limit_of settings

-- what is kept of what ran: every record until the runtime closes, or none
abbrev pub records_kept : Bool → Kept
records_kept records = cond records Whole Nothing

-- the counts of a barrier's words
pub record AreCountsOf (words : CountWords) (counts : Counts) : Type 0 where
  pub many : counts.n ≡ words.processors
  pub each : (p : ℕ) → p < words.processors → slice_index counts.counts p ≡ slice_index words.counts p

-- `enum rcuo_mode`
abbrev pub mode_number : Mode → ℕ
mode_number Local = 0
mode_number Offloading = 1
mode_number Offloaded = 2
mode_number Deoffloading = 3

-- `struct rcuo_lists`, of a processor's lists
abbrev pub AreListWords : ListWords → Lists → Type 0
AreListWords w (Cpu mode accepted bypass lengths numbers) = (w.mode ≡ mode_number mode) × (w.accepted ≡ accepted) × (w.bypass ≡ bypass)
    × (w.lengths ≡ lengths) × (w.numbers ≡ numbers)
AreListWords w (Folk lengths numbers) = (w.lengths ≡ lengths) × (w.numbers ≡ numbers)

-- `struct rcuo_record`
pub record AreRecordWords (w : RecordWords) (r : Record ForeignJob) : Type 0 where
  pub number : w.number ≡ r.number
  pub stamp : w.stamp ≡ r.stamp
  pub ready : w.ready ≡ r.ready
  pub job : w.job ≡ r.receipt

-- `RCUO_VERSION_NUMBER`
abbrev pub version_number : ℕ → ℕ → ℕ → ℕ
version_number major minor patch = major * 1000000 + minor * 1000 + patch
