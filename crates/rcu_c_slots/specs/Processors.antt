-- What calls on a processor in a slot do, in the words of the processor's own calls, whether or not a callback of it runs.
use Rattle.std.specs.Prelude.{◌≡◌, ◌≢◌, ℕ, Option, None, Result, MatchResult, refl}
use Rattle.rcu_board.specs.Seats.{SawShut}
use Rattle.rcu_part_control.specs.Barriers.{Opens, count_at}
use Rattle.rcu_part_control.specs.declared.barrier.Barrier.{Barrier}
use Rattle.rcu_jobs.specs.declared.answers.Refused.{Refused}
use Rattle.rcu_jobs.specs.declared.answers.Ticket.{Ticket}
use Rattle.rcu_c_slots.specs.Faults.{refusal}
use Rattle.rcu_c_slots.specs.Parts.{Gives, IsRefused, wrong_kind}
use Rattle.rcu_c_slots.specs.declared.fault.Fault.{Fault}
use Rattle.rcu_c_slots.specs.declared.job.ForeignJob.{ForeignJob}
use Rattle.rcu_c_slots.specs.declared.lent.LentProcessor.{LentProcessor}
use Rattle.rcu_c_slots.specs.declared.part.Part.{Part}
use Rattle.rcu_c_slots.specs.declared.part.Part.TheVariants.{Processor}
use Rattle.rcu_lists.specs.declared.pace.Kind.{Kind}
use Rattle.rcu_part_processor.specs.Accepting.{IsLimit}
use Rattle.rcu_part_processor.specs.InPlace.{IsAccepted, IsRefusedAs, IsSoundInPlace, KeepsAll, SameInPlace, board_in, in_place, view_in}
use Rattle.rcu_part_processor.specs.declared.in_place.ProcessorInPlaceState.{ProcessorInPlaceState}
use Rattle.rcu_part_processor.specs.declared.processor.Processor.{Processor as Cpu}
use Rattle.rcu_part_steps.specs.Reports.{Reports}

-- a processor by itself, as open gives it and close takes it
abbrev pub ForeignCpu : Type 0
ForeignCpu = Cpu ForeignJob ForeignJob

-- in a slot it stands so, where no callback runs
abbrev pub lent_processor : ForeignCpu → LentProcessor
lent_processor p = record { processor = record { state = in_place p.state }; job = None; both = refl }

abbrev pub state_of : LentProcessor → ProcessorInPlaceState ForeignJob ForeignJob
state_of p = p.processor.state

-- the key of a job, and that a receipt has the key
abbrev pub foreign_key : ForeignJob → ℕ
foreign_key job = job.key

abbrev pub HasKey : ℕ → ForeignJob → Type 0
HasKey key receipt = receipt.key ≡ key

-- The same processor of the same open, which knows of jobs what it did; a callback that runs is the same, with its job.
pub record KeepsProcessor (p q : LentProcessor) : Type 0 where
  pub same : SameInPlace (state_of p) (state_of q)
  pub job : q.job ≡ p.job
  pub sound : IsSoundInPlace foreign_key HasKey (state_of p) → IsSoundInPlace foreign_key HasKey (state_of q)

-- a report, and nothing else
pub record ReportsOne (counted : Option ℕ) (p q : LentProcessor) : Type 0 where
  pub kept : KeepsProcessor p q
  pub lists : KeepsAll (state_of p) (state_of q)
  pub reports : Reports (state_of p).cpu counted (view_in (state_of p)) (view_in (state_of q))

-- the job was accepted under this ticket, by a processor that wasn't at its limit, nor seen to be shut
pub record AcceptsOne (kind : Kind) (moment : ℕ) (job : ForeignJob) (t : Ticket) (p q : LentProcessor) : Type 0 where
  pub kept : KeepsProcessor p q
  pub accepts : IsAccepted moment kind job.key job t (state_of p) (state_of q)
  pub room : (state_of p).accepted ≢ (state_of p).limit
  pub not_shut : SawShut (state_of p).cpu (view_in (state_of p)) → ⊥

-- the job was refused, and nothing was accepted; at the limit for that reason
pub record RefusesOne (job : ForeignJob) (refused : Refused ForeignJob) (p q : LentProcessor) : Type 0 where
  pub kept : KeepsProcessor p q
  pub lists : KeepsAll (state_of p) (state_of q)
  pub why : IsRefusedAs job refused (state_of p) (state_of q)
  pub full : (state_of p).accepted ≡ (state_of p).limit → IsLimit refused

-- a barrier was opened, and nothing else changed
pub record OpensOne (b : Barrier) (p q : LentProcessor) : Type 0 where
  pub kept : KeepsProcessor p q
  pub lists : KeepsAll (state_of p) (state_of q)
  pub opens : Opens (board_in (state_of p)).processors b (view_in (state_of p)) (view_in (state_of q))
  pub own : count_at b.counts (state_of q).cpu ≡ (state_of q).accepted

-- what a call on a processor answers and does
abbrev pub AnswersCall : Kind → ℕ → ForeignJob → Result Ticket (Refused ForeignJob) → LentProcessor → LentProcessor → Type 0
AnswersCall kind moment job result p q = MatchResult result
    (λ t. AcceptsOne kind moment job t p q)
    (λ refused. RefusesOne job refused p q)

-- The processor's refusal is named.
pub record RefusesBy (Refuses : Refused ForeignJob → Type 0) (fault : Fault) : Type 0 where
  pub refused : Refused ForeignJob
  pub named : fault ≡ refusal refused
  pub refuses : Refuses refused

-- the same as a call on a part answers it
abbrev pub CallsOne : Kind → ℕ → ForeignJob → Result Ticket Fault → LentProcessor → LentProcessor → Type 0
CallsOne kind moment job result p q = MatchResult result
    (λ t. AcceptsOne kind moment job t p q)
    (λ fault. RefusesBy (λ refused. RefusesOne job refused p q) fault)

-- ---- by what the slot's part is

abbrev pub ReportsBy : Result (Option ℕ) Fault → Part → Part → Type 0
ReportsBy result (Processor p) new = Gives Processor ReportsOne result p new
ReportsBy result old new = IsRefused (wrong_kind old) result old new

abbrev pub CallsBy : Kind → ℕ → ForeignJob → Result Ticket Fault → Part → Part → Type 0
CallsBy kind moment job result (Processor p) new = (q : LentProcessor) × (new ≡ Processor q) × CallsOne kind moment job result p q
CallsBy kind moment job result old new = IsRefused (wrong_kind old) result old new
