-- Parts of any kind, and what a call on one does.
use Rattle.std.specs.Prelude.{◌≡◌, Bool, true, false, Option, Some, None, Result, MatchOption}
use Rattle.std.specs.declared.result.Result.TheVariants.{Err, Ok}
use Rattle.rcu_c_slots.specs.declared.fault.Fault.{Fault}
use Rattle.rcu_c_slots.specs.declared.fault.Fault.TheVariants as fault
use Rattle.rcu_c_slots.specs.declared.fault.Fault.TheVariants.{Empty, NotAway, NotRunning, Other, Running}
use Rattle.rcu_c_slots.specs.declared.job.ForeignJob.{ForeignJob}
use Rattle.rcu_c_slots.specs.declared.part.Part.{Part}
use Rattle.rcu_c_slots.specs.declared.part.PartKind.{PartKind}
use Rattle.rcu_c_slots.specs.declared.part.PartKind.TheVariants as kind
use Rattle.rcu_c_slots.specs.declared.part.Part.TheVariants.{Processor, Away, Hand, Group, Driver, Control, Closing, Closed, Nothing}

-- by whether a callback of a part runs, of which this is the job that was handed out
abbrev pub if_resting : {A : Type 0} → Option ForeignJob → A → A → A
if_resting None rests runs = rests
if_resting (Some job) rests runs = runs

-- what a call answers that isn't one of this kind of part
abbrev pub wrong_kind : Part → Fault
wrong_kind (Processor p) = Other
wrong_kind (Away a) = fault.Away
wrong_kind (Hand h) = Other
wrong_kind (Group g) = Other
wrong_kind (Driver d) = Other
wrong_kind (Control c) = Other
wrong_kind (Closing c) = Other
wrong_kind (Closed c) = Other
wrong_kind Nothing = Empty

-- what a call answers that wants a part of which no callback runs and that isn't away, or one of which one runs
abbrev pub not_resting : Part → Fault
not_resting (Processor p) = if_resting p.job Other Running
not_resting (Away a) = fault.Away
not_resting (Hand h) = if_resting h.job Other Running
not_resting (Group g) = Other
not_resting (Driver d) = Other
not_resting (Control c) = Other
not_resting (Closing c) = Other
not_resting (Closed c) = Other
not_resting Nothing = Empty

abbrev pub not_running : Part → Fault
not_running (Processor p) = if_resting p.job NotRunning Other
not_running (Away a) = NotRunning
not_running (Hand h) = if_resting h.job NotRunning Other
not_running (Group g) = Other
not_running (Driver d) = Other
not_running (Control c) = Other
not_running (Closing c) = Other
not_running (Closed c) = Other
not_running Nothing = Empty

-- what a call answers that wants a processor that is away
abbrev pub not_away : Part → Fault
not_away (Processor p) = NotAway
not_away (Away a) = Other
not_away (Hand h) = Other
not_away (Group g) = Other
not_away (Driver d) = Other
not_away (Control c) = Other
not_away (Closing c) = Other
not_away (Closed c) = Other
not_away Nothing = Empty

abbrev pub kind_of : Part → PartKind
kind_of (Processor p) = if_resting p.job kind.Processor kind.Running
kind_of (Away a) = kind.Away
kind_of (Hand h) = if_resting h.job kind.Hand kind.Running
kind_of (Group g) = kind.Group
kind_of (Driver d) = kind.Driver
kind_of (Control c) = kind.Control
kind_of (Closing c) = kind.Closing
kind_of (Closed c) = kind.Other
kind_of Nothing = kind.Other

-- whether it is what is left of a runtime
abbrev pub is_closed : Part → Bool
is_closed (Processor p) = false
is_closed (Away a) = false
is_closed (Hand h) = false
is_closed (Group g) = false
is_closed (Driver d) = false
is_closed (Control c) = false
is_closed (Closing c) = false
is_closed (Closed c) = true
is_closed Nothing = false

-- A call was made on a part of this kind, which stays of that kind, and it gave this answer.
pub record Gives {A X : Type 0} (kind : X → Part) (Does : A → X → X → Type 0) (result : Result A Fault) (before : X) (new : Part) : Type 0 where
  pub answer : A
  pub after : X
  pub result_is : result ≡ Ok answer
  pub new_is : new ≡ kind after
  pub does : Does answer before after

-- No call was made, for this reason, and the part stays as it was.
abbrev pub IsRefused : {A : Type 0} → Fault → Result A Fault → Part → Part → Type 0
IsRefused fault result old new = (result ≡ Err fault) × (new ≡ old)

-- A call gave this answer, and did this.
abbrev pub Answers : {A X : Type 0} → (A → X → X → Type 0) → Result A Fault → X → X → Type 0
Answers {A} Does result before after = (answer : A) × (result ≡ Ok answer) × Does answer before after

-- Where no callback of a part runs, a call does this; where one runs, it is refused, and the part stays as it was.
abbrev pub WhereRests : {A X : Type 0} → Option ForeignJob → (Result A Fault → X → X → Type 0) → Result A Fault → X → X → Type 0
WhereRests job Does result before after = MatchOption job (Does result before after) (λ _. (result ≡ Err Running) × (after ≡ before))
