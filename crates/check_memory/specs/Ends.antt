-- What the end of a runtime has to answer: docs/specification/surface.md, "After want of memory".
use Rattle.std.specs.Prelude.{◌≡◌, ℕ, ◌+◌, ◌%◌, ◌^◌, List, length, Some}
use Rattle.std.specs.Global.{Vec}
use Rattle.std.specs.List.{slice_get}
use Rattle.rcu_jobs.specs.declared.answers.Closed.{Closed}
use Rattle.rcu_jobs.specs.declared.callback.Record.{Record}
use Rattle.rcu_jobs.specs.declared.turns.Lists.{Lists}
use Rattle.rcu_jobs.specs.declared.turns.Lists.TheVariants.{Cpu, Folk}
use Rattle.check_memory.specs.Works.{callback_key}
use Rattle.check_memory.specs.declared.work.Work.{Work}

-- how many callbacks a processor accepted, by the lists that it shows
abbrev pub accepted_in : Lists → ℕ
accepted_in (Cpu _ accepted _ _ _) = accepted
accepted_in (Folk _ _) = 0

-- the records are those of the first callbacks of a processor, in order
abbrev pub AreFirst : ℕ → List (Record ℕ) → Type 0
AreFirst cpu ran = (i : ℕ) (r : Record ℕ) → slice_get ran i ≡ Some r
    → (r.number ≡ i) × (r.key ≡ callback_key cpu i) × (r.receipt ≡ callback_key cpu i)

-- the jobs are those of the callbacks from a first one on, in order
abbrev pub AreNext : ℕ → ℕ → List Work → Type 0
AreNext cpu first back = (i : ℕ) (job : Work) → slice_get back i ≡ Some job → job.key ≡ callback_key cpu ((first + i) % 2 ^ 64)

-- Of so many callbacks that a processor accepted each ran or was handed back, once and in its place.
pub record IsWhole (cpu many : ℕ) (ran : List (Record ℕ)) (back : List Work) : Type 0 where
  pub all : length ran + length back ≡ many
  pub first : AreFirst cpu ran
  pub next : AreNext cpu (length ran) back

-- what is closed has such records and jobs of a processor
pub record EndsWhole (cpu many : ℕ) (closed : Closed Work ℕ) : Type 0 where
  pub records : Vec (Record ℕ)
  pub jobs : Vec Work
  pub ran : slice_get closed.ran.items cpu ≡ Some records
  pub back : slice_get closed.back.items cpu ≡ Some jobs
  pub whole : IsWhole cpu many records.items jobs.items
