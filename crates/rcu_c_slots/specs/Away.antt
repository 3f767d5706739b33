-- What leaving and coming back of a processor in a slot do, in the words of their own calls.
use Rattle.std.specs.Prelude.{◌≡◌, ◌*◌, ◌≤◌, [], Result, MatchOption, MatchResult}
use Rattle.std.specs.declared.result.Result.TheVariants.{Err, Ok}
use Rattle.rcu_board.specs.Plays.{return_own, stepped_own}
use Rattle.rcu_board.specs.Words.{reports_word}
use Rattle.rcu_c_slots.specs.Parts.{not_away, not_resting}
use Rattle.rcu_c_slots.specs.Processors.{ForeignCpu, HasKey, foreign_key, lent_processor}
use Rattle.rcu_c_slots.specs.declared.fault.Fault.{Fault}
use Rattle.rcu_c_slots.specs.declared.fault.Fault.TheVariants.{Memory, Running}
use Rattle.rcu_c_slots.specs.declared.job.ForeignJob.{ForeignJob}
use Rattle.rcu_c_slots.specs.declared.lent.LentProcessor.{LentProcessor}
use Rattle.rcu_c_slots.specs.declared.part.Part.{Part}
use Rattle.rcu_c_slots.specs.declared.part.Part.TheVariants.{Away, Processor}
use Rattle.rcu_part_processor.specs.Away.{IsSoundAway, KeepsLeaving, KeepsReturning, Leaves, SameLeft, SameReturned, StaysHere, away_lists, away_view}
use Rattle.rcu_part_processor.specs.Processors.{IsSound, view_of}
use Rattle.rcu_part_processor.specs.declared.away.Away.{Away as TheAway}

abbrev pub ForeignAway : Type 0
ForeignAway = TheAway ForeignJob ForeignJob

-- The processor is away, with what it accepted, ran and holds in its own list; what its bypass list held is on its lane.
pub record LeavesOne (p : ForeignCpu) (q : ForeignAway) : Type 0 where
  pub same : SameLeft p.state q.state
  pub leaves : Leaves p.state q.state
  pub empty : (away_lists q.state).outgoing.bypass ≡ []
  pub keeps : KeepsLeaving p.state q.state
  pub sound : IsSound foreign_key HasKey p.state → IsSoundAway foreign_key HasKey q.state

-- It is still here, since its lane has no room.
pub record StaysOne (p q : ForeignCpu) : Type 0 where
  pub stays : StaysHere p.state q.state
  pub sound : IsSound foreign_key HasKey p.state → IsSound foreign_key HasKey q.state

-- It is back, with all that it had, and knows each grace period that it passed meanwhile.
pub record ReturnsOne (p : ForeignAway) (q : ForeignCpu) : Type 0 where
  pub same : SameReturned p.state q.state
  pub keeps : KeepsReturning p.state q.state
  pub passed : view_of q.state ≡ stepped_own return_own (reports_word p.state.cpu) (2 * q.state.passed) (away_view p.state)
  pub later : p.state.passed ≤ q.state.passed
  pub sound : IsSoundAway foreign_key HasKey p.state → IsSound foreign_key HasKey q.state

-- The processor that leaves is the one in the slot, of which no callback runs.
abbrev pub LeavesCpu : Result (Unit {0}) Fault → ForeignCpu → Part → Type 0
LeavesCpu result p new = MatchResult result
    (λ _. (q : ForeignAway) × (new ≡ Away q) × LeavesOne p q)
    (λ fault. (fault ≡ Memory) × ((q : ForeignCpu) × (new ≡ Processor (lent_processor q)) × StaysOne p q))

abbrev pub LeavesLent : Result (Unit {0}) Fault → LentProcessor → Part → Type 0
LeavesLent result l new = MatchOption l.job
    ((p : ForeignCpu) × (l ≡ lent_processor p) × LeavesCpu result p new)
    (λ _. (result ≡ Err Running) × (new ≡ Processor l))

-- ---- by what the slot's part is

abbrev pub LeavesBy : Result (Unit {0}) Fault → Part → Part → Type 0
LeavesBy result (Processor l) new = LeavesLent result l new
LeavesBy result old new = (result ≡ Err (not_resting old)) × (new ≡ old)

abbrev pub ReturnsBy : Result (Unit {0}) Fault → Part → Part → Type 0
ReturnsBy result (Away p) new = (result ≡ Ok tt) × ((q : ForeignCpu) × (new ≡ Processor (lent_processor q)) × ReturnsOne p q)
ReturnsBy result old new = (result ≡ Err (not_away old)) × (new ≡ old)
