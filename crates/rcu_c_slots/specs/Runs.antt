-- What begin and finish on a processor or a hand in a slot do, in the words of their own calls.
use Rattle.std.specs.Prelude.{◌≡◌, ◌≢◌, ℕ, None, Some, Result, IfErr, MatchOption, MatchResult, refl}
use Rattle.std.specs.declared.result.Result.TheVariants.{Err, Ok}
use Rattle.std.proofs.Common.{◌⊎◌}
use Rattle.rcu_jobs.specs.declared.Stop.{Stop}
use Rattle.rcu_jobs.specs.declared.Stop.TheVariants.{Limit}
use Rattle.rcu_c_slots.specs.Faults.{stop_fault}
use Rattle.rcu_c_slots.specs.Parts.{WhereRests, not_resting, not_running}
use Rattle.rcu_c_slots.specs.Processors.{HasKey, foreign_key, state_of}
use Rattle.rcu_c_slots.specs.declared.fault.Fault.{Fault}
use Rattle.rcu_c_slots.specs.declared.fault.Fault.TheVariants.{NotRunning}
use Rattle.rcu_c_slots.specs.declared.job.ForeignJob.{ForeignJob}
use Rattle.rcu_c_slots.specs.declared.lent.LentHand.{LentHand}
use Rattle.rcu_c_slots.specs.declared.lent.LentProcessor.{LentProcessor}
use Rattle.rcu_c_slots.specs.declared.part.Part.{Part}
use Rattle.rcu_c_slots.specs.declared.part.Part.TheVariants.{Hand, Processor}
use Rattle.rcu_part_hand.specs.Begins as hands
use Rattle.rcu_part_hand.specs.InPlace as hand
use Rattle.rcu_part_hand.specs.declared.hand.Hand.{Hand as TheHand}
use Rattle.rcu_part_hand.specs.declared.in_place.HandInPlaceState.{HandInPlaceState}
use Rattle.rcu_part_processor.specs.Begins.{BeginsTick, FinishesProcessor, StopsBegin}
use Rattle.rcu_part_processor.specs.InPlace.{EndsRunning, IfRunning, IsSoundInPlace, StartsRunning, StaysResting}

-- a hand by itself, as open gives it and close takes it
abbrev pub ForeignHand : Type 0
ForeignHand = TheHand ForeignJob ForeignJob

-- in a slot it stands so, where no callback runs
abbrev pub lent_hand : ForeignHand → LentHand
lent_hand h = record { hand = record { state = hand.in_place h.state }; job = None; both = refl }

abbrev pub hand_state : LentHand → HandInPlaceState ForeignJob ForeignJob
hand_state h = h.hand.state

-- ---- a processor

-- The claim of its first callback whose wait is over was won in a tick, and its job is handed out.
pub record BeginsOne (moment : ℕ) (job : ForeignJob) (p q : LentProcessor) : Type 0 where
  pub job_is : q.job ≡ Some job
  pub begins : StartsRunning (λ o r. BeginsTick moment o r job) (state_of p) (state_of q)
  pub keyed : IsSoundInPlace foreign_key HasKey (state_of p) → IfRunning (λ r. job.key ≡ r.claimed.key) (state_of q)
  pub sound : IsSoundInPlace foreign_key HasKey (state_of p) → IsSoundInPlace foreign_key HasKey (state_of q)

-- A tick that ran nothing, and why: never for its limit.
pub record StopsOne (moment : ℕ) (fault : Fault) (p q : LentProcessor) : Type 0 where
  pub job : q.job ≡ None
  pub stop : Stop
  pub named : fault ≡ stop_fault stop
  pub counts : stop ≢ Limit
  pub stops : StaysResting (StopsBegin moment stop) (state_of p) (state_of q)
  pub sound : IsSoundInPlace foreign_key HasKey (state_of p) → IsSoundInPlace foreign_key HasKey (state_of q)

-- The claim has ended, and its record is added, with the job that was handed out.
pub record FinishesOne (job : ForeignJob) (p q : LentProcessor) : Type 0 where
  pub rests : q.job ≡ None
  pub finishes : EndsRunning (FinishesProcessor job) (state_of p) (state_of q)
  pub sound : IfRunning (λ r. job.key ≡ r.claimed.key) (state_of p) → IsSoundInPlace foreign_key HasKey (state_of p) → IsSoundInPlace foreign_key HasKey (state_of q)

-- ---- a hand

pub record BeginsHandOne (job : ForeignJob) (h i : LentHand) : Type 0 where
  pub job_is : i.job ≡ Some job
  pub begins : hand.StartsRunning (λ o r. hands.BeginsHand o r job) (hand_state h) (hand_state i)
  pub keyed : hand.IfRunning (λ r. hands.IsKeyed foreign_key r job) (hand_state i)
  pub sound : hand.KeepsSoundInPlace foreign_key HasKey (hand_state h) (hand_state i)

-- A turn that ran nothing, and why: never for its limit.
pub record StopsHandOne (fault : Fault) (h i : LentHand) : Type 0 where
  pub job : i.job ≡ None
  pub stop : Stop
  pub named : fault ≡ stop_fault stop
  pub counts : stop ≢ Limit
  pub stops : hand.StaysResting (hands.StopsHand stop) (hand_state h) (hand_state i)
  pub sound : hand.KeepsSoundInPlace foreign_key HasKey (hand_state h) (hand_state i)

pub record FinishesHandOne (job : ForeignJob) (h i : LentHand) : Type 0 where
  pub rests : i.job ≡ None
  pub finishes : hand.EndsRunning (hands.FinishesHand job) (hand_state h) (hand_state i)
  pub sound : hand.IfRunning (λ r. hands.IsKeyed foreign_key r job) (hand_state h) → hand.KeepsSoundInPlace foreign_key HasKey (hand_state h) (hand_state i)

-- ---- by whether a callback runs

-- what a begin answered, where its job is in a place of the caller's
abbrev pub handed : Result (Unit {0}) Fault → ForeignJob → Result ForeignJob Fault
handed (Ok _) begun = Ok begun
handed (Err fault) begun = Err fault

-- A begin was made, whose job is in the caller's place; where none was begun the place is as it was.
pub record HandsOut (Begins : Result ForeignJob Fault → Type 0) (result : Result (Unit {0}) Fault) (old new : ForeignJob) : Type 0 where
  pub begins : Begins (handed result new)
  pub none : IfErr result (λ _. new ≡ old)

abbrev pub BeginsCpu : ℕ → Result ForeignJob Fault → LentProcessor → LentProcessor → Type 0
BeginsCpu moment result p q = WhereRests p.job (λ r o n. MatchResult r (λ job. BeginsOne moment job o n) (λ fault. StopsOne moment fault o n)) result p q

abbrev pub BeginsHand : Result ForeignJob Fault → LentHand → LentHand → Type 0
BeginsHand result h i = WhereRests h.job (λ r o n. MatchResult r (λ job. BeginsHandOne job o n) (λ fault. StopsHandOne fault o n)) result h i

abbrev pub FinishesCpu : Result (Unit {0}) Fault → LentProcessor → LentProcessor → Type 0
FinishesCpu result p q = MatchOption p.job ((result ≡ Err NotRunning) × (q ≡ p)) (λ job. (result ≡ Ok tt) × FinishesOne job p q)

abbrev pub FinishesHand : Result (Unit {0}) Fault → LentHand → LentHand → Type 0
FinishesHand result h i = MatchOption h.job ((result ≡ Err NotRunning) × (i ≡ h)) (λ job. (result ≡ Ok tt) × FinishesHandOne job h i)

-- ---- by what the slot's part is

-- A begin, by what the part was.
abbrev pub BeginsBy : ℕ → Result ForeignJob Fault → Part → Part → Type 0
BeginsBy moment result (Processor p) new = (q : LentProcessor) × (new ≡ Processor q) × BeginsCpu moment result p q
BeginsBy moment result (Hand h) new = (i : LentHand) × (new ≡ Hand i) × BeginsHand result h i
BeginsBy moment result old new = (result ≡ Err (not_resting old)) × (new ≡ old)

-- A finish, by what the part was.
abbrev pub FinishesBy : Result (Unit {0}) Fault → Part → Part → Type 0
FinishesBy result (Processor p) new = (q : LentProcessor) × (new ≡ Processor q) × FinishesCpu result p q
FinishesBy result (Hand h) new = (i : LentHand) × (new ≡ Hand i) × FinishesHand result h i
FinishesBy result old new = (result ≡ Err (not_running old)) × (new ≡ old)

-- ---- a finish, and then a begin

-- The callback that runs isn't ended, for this fault; or it is, and then another is begun.
abbrev pub GoesOn : {P : Type 0} → (Result (Unit {0}) Fault → P → P → Type 0) → (Result ForeignJob Fault → P → P → Type 0) → Result ForeignJob Fault → P → P → Type 0
GoesOn {P} Finishes Begins result old new = ((fault : Fault) × (result ≡ Err fault) × Finishes (Err fault) old new)
    ⊎ ((between : P) × Finishes (Ok tt) old between × Begins result between new)

abbrev pub GoesOnCpu : ℕ → Result ForeignJob Fault → LentProcessor → LentProcessor → Type 0
GoesOnCpu moment = GoesOn FinishesCpu (BeginsCpu moment)

abbrev pub GoesOnHand : Result ForeignJob Fault → LentHand → LentHand → Type 0
GoesOnHand = GoesOn FinishesHand BeginsHand

-- A finish and a begin, by what the part was.
abbrev pub GoesOnBy : ℕ → Result ForeignJob Fault → Part → Part → Type 0
GoesOnBy moment = GoesOn FinishesBy (BeginsBy moment)
