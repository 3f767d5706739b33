-- Room for a Stamp that follows directly on Accept. docs/specification/surface.md, "rcu_world"
use Rattle.std.specs.Prelude.{ℕ, ◌≡◌, ◌+◌, ◌≤◌, Bool, true, false, slice_index_or}
use Rattle.rcu_jobs.specs.declared.Refused.{Refused}
use Rattle.rcu_jobs.specs.declared.Refused.TheVariants.{Limit, Memory, Closed}
use Rattle.rcu_world_law.specs.States.{State, cpu_at}
use Rattle.rcu_world_law.specs.Steps.{can_accept}
use Rattle.rcu_world.specs.declared.events.Answer.{Answer}
use Rattle.rcu_world.specs.declared.events.Answer.TheVariants as answers
use Rattle.rcu_world.specs.declared.events.Event.{Event}
use Rattle.rcu_world.specs.declared.events.Event.TheVariants as events
use Rattle.rcu_world_processor.specs.declared.processor.WorldProcessor.{WorldProcessor}
use Rattle.rcu_world.specs.declared.cores.Core.{Core}
use Rattle.rcu_world_processor.specs.Ready.{IsReady}

abbrev pub IsReadyAt : {J R : Type 0} → Core J R → ℕ → Type 0
IsReadyAt {J} {R} w cpu = (p : WorldProcessor J R) → p ≡ slice_index_or w.processors.items cpu p → IsReady p

abbrev pub is_done : {J : Type 0} → Answer J → Bool
is_done answers.Done = true
is_done answers.Due = true
is_done (answers.Skipped job) = false
is_done (answers.Memory job) = false

abbrev pub lacks_room : {J : Type 0} → Answer J → Bool
lacks_room answers.Done = false
lacks_room answers.Due = false
lacks_room (answers.Skipped job) = false
lacks_room (answers.Memory job) = true

-- a done Accept leaves room for the Stamp that follows directly
abbrev pub LeavesRoom : {J R : Type 0} → Event J → Answer J → Core J R → Type 0
LeavesRoom (events.Accept p job) answer new = is_done answer ≡ true → IsReadyAt new p
LeavesRoom e answer new = Unit {0}

-- where there is that room, a Stamp is never refused for want of memory
abbrev pub UsesRoom : {J R : Type 0} → Core J R → Event J → Answer J → Type 0
UsesRoom old (events.Stamp p moment lazy) answer = IsReadyAt old p → lacks_room answer ≡ false
UsesRoom old e answer = Unit {0}

-- A refused call, in the order of its tests: at the limit, exactly then; else shut; else no room. The job comes back.
abbrev pub IsRefusal : {J : Type 0} → State → ℕ → J → Refused J → Type 0
IsRefusal w cpu job (Limit back) = (back ≡ job) × (w.shape.limit ≤ (cpu_at w cpu).count)
IsRefusal w cpu job (Closed back) = (back ≡ job) × ((cpu_at w cpu).count + 1 ≤ w.shape.limit) × ((cpu_at w cpu).shut ≡ true)
IsRefusal w cpu job (Memory back) = (back ≡ job) × (can_accept w.shape.limit (cpu_at w cpu) ≡ true)
