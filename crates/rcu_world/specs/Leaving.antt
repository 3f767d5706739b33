-- What a close finds room for, and what it hands back. docs/specification/definitions.md, "The law": settled, given
use Rattle.std.specs.Prelude.{◌≡◌, ℕ, ◌+◌, ◌≤◌, ◌<◌, List, [], ◌∷◌, ◌++◌, length, map, All, vec_len, vec_capacity, slice_index_or}
use Rattle.std.specs.Global.{Vec}
use Rattle.std.specs.List.{AllByRecursion}
use Rattle.rcu_jobs.specs.declared.Record.{Record}
use Rattle.rcu_world_law.specs.declared.marks.Mark.{Mark}
use Rattle.rcu_world_law.specs.declared.marks.Mark.TheVariants.{Back}
use Rattle.rcu_world_law.specs.Law.{back}
use Rattle.rcu_world_law.specs.States.{State, Cpu, Run, cpu_at}
use Rattle.rcu_world_law.specs.Places.{remaining_callbacks}
use Rattle.rcu_world_law.specs.Invariant.{AreRecords, reports}
use Rattle.rcu_world_processor.specs.declared.processor.WorldProcessor.{WorldProcessor}
use Rattle.rcu_world_processor.specs.Leaving.{IsCounted}
use Rattle.rcu_world.specs.declared.cores.Core.{Core}
use Rattle.rcu_world.specs.declared.end.Reserved.{Reserved}
use Rattle.rcu_world_processor.specs.Views.{run, seen}
use Rattle.rcu_world.specs.Views.{all_seen}

-- a Shut, and a Back for each callback that is left
abbrev pub most_marks : List Cpu → ℕ
most_marks [] = 0
most_marks (c ∷ cs) = (1 + length (remaining_callbacks c)) + most_marks cs

-- the marks of what is handed back, by processor and in order
abbrev pub backs : ℕ → List (List ℕ) → List Mark
backs p [] = []
backs p (keys ∷ rest) = map (λ key. Back p key) keys ++ backs (p + 1) rest

module _ {J R : Type 0} (job_key : J → ℕ) where
  abbrev pub AreCounted : List (WorldProcessor J R) → Type 0
  AreCounted ps = AllByRecursion (λ p. IsCounted (seen job_key p)) ps

  -- an empty list for each processor, with room for what is left of it
  abbrev pub HaveRoom : List (WorldProcessor J R) → List (Vec J) → Type 0
  HaveRoom [] [] = Unit {0}
  HaveRoom (p ∷ ps) (v ∷ vs) = ((v.items ≡ []) × (length (remaining_callbacks (seen job_key p)) ≤ vec_capacity v)) × HaveRoom ps vs
  HaveRoom [] (v ∷ vs) = ⊥
  HaveRoom (p ∷ ps) [] = ⊥

-- the room that a close needs: the history with room for the last marks, and lists for what is left, for what ran, and for the counts of reports
pub record IsRoomFor {J R : Type 0} (job_key : J → ℕ) (w : Core J R) (room : Reserved J R) : Type 0 where
  pub marks : room.marks.items ≡ w.history.items
  pub more : vec_len room.marks + most_marks (all_seen job_key w.processors.items) ≤ vec_capacity room.marks
  pub jobs : HaveRoom job_key w.processors.items room.jobs.items
  pub empty : (room.ran.items ≡ []) × (room.back.items ≡ []) × (room.reports.items ≡ [])
  pub ran : vec_len w.processors ≤ vec_capacity room.ran
  pub back : vec_len w.processors ≤ vec_capacity room.back
  pub reports : vec_len w.processors ≤ vec_capacity room.reports

-- for each of the n processors the jobs whose keys stand in its Back marks, in order
pub record AreHandedBack {J : Type 0} (job_key : J → ℕ) (n : ℕ) (h : List Mark) (lists : List (Vec J)) : Type 0 where
  pub each : (p : ℕ) → p < n → slice_index_or (map (λ v. map job_key v.items) lists) p [] ≡ back p h
  pub len : length lists ≡ n

-- the records of processor p, without their receipts
abbrev pub runs_in : {R : Type 0} → List (Vec (Record R)) → ℕ → List Run
runs_in lists p = slice_index_or (map (λ v. map run v.items) lists) p []

-- "given": for each of the n processors its records by the history, each with a receipt that the job's relation allows
pub record AreRecorded {R : Type 0} (gives : ℕ → R → Type 0) (n : ℕ) (h : List Mark) (lists : List (Vec (Record R))) : Type 0 where
  pub each : (p : ℕ) → p < n → AreRecords h p (runs_in lists p)
  pub given : AllByRecursion (λ v. All (λ r. gives r.key r.receipt) v.items) lists
  pub len : length lists ≡ n

-- the records are what the machine keeps of what ran: their stamps, and the sights by which they ran, are the machine's
pub record AreRunsOf {R : Type 0} (w : State) (lists : List (Vec (Record R))) : Type 0 where
  pub each : (p : ℕ) → p < length w.cpus → runs_in lists p ≡ (cpu_at w p).runs

-- for each of the n processors how often it reported
pub record AreReported (n : ℕ) (h : List Mark) (counts : List ℕ) : Type 0 where
  pub each : (q : ℕ) → q < n → slice_index_or counts q 0 ≡ reports q h
  pub len : length counts ≡ n
