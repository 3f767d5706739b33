-- What calls on a group, the driver and control in slots do, in the words of their own calls.
use Rattle.std.specs.Prelude.{◌≡◌, ℕ, Bool, Result, MatchResult}
use Rattle.std.specs.declared.result.Result.TheVariants.{Ok, Err}
use Rattle.std.specs.Int.{from_bool}
use Rattle.rcu_board.specs.Plays.{touched}
use Rattle.rcu_board.specs.Words.{halt_word}
use Rattle.rcu_part_control.specs.Control.{Shuts, SwitchesBy}
use Rattle.rcu_part_control.specs.Driving.{DrivesBy}
use Rattle.rcu_part_control.specs.Parts.{control_board, control_view, driver_board, driver_view, SameControl, SameDriver}
use Rattle.rcu_part_control.specs.declared.control.Control.{Control as TheControl}
use Rattle.rcu_part_control.specs.declared.driver.Driver.{Driver as TheDriver}
use Rattle.rcu_jobs.specs.declared.Counts.{Counts}
use Rattle.rcu_jobs.specs.declared.DriverTurn.{DriverTurn}
use Rattle.rcu_jobs.specs.declared.GroupTurn.{GroupTurn}
use Rattle.rcu_jobs.specs.declared.SwitchFault.{SwitchFault}
use Rattle.rcu_c_slots.specs.Faults.{switch_refusal}
use Rattle.rcu_c_slots.specs.Parts.{Answers, Gives, IsRefused, WhereRests, not_resting, wrong_kind}
use Rattle.rcu_c_slots.specs.Processors.{HasKey, KeepsProcessor, foreign_key, state_of}
use Rattle.rcu_c_slots.specs.Runs.{hand_state}
use Rattle.rcu_c_slots.specs.declared.fault.Fault.{Fault}
use Rattle.rcu_c_slots.specs.declared.job.ForeignJob.{ForeignJob}
use Rattle.rcu_c_slots.specs.declared.lent.LentHand.{LentHand}
use Rattle.rcu_c_slots.specs.declared.lent.LentProcessor.{LentProcessor}
use Rattle.rcu_c_slots.specs.declared.part.Part.{Part}
use Rattle.rcu_c_slots.specs.declared.part.Part.TheVariants.{Control, Driver, Group, Hand, Processor}
use Rattle.rcu_part_group.specs.Groups.{SameGroup, TurnsGroup, group_view, members_of}
use Rattle.rcu_part_group.specs.declared.group.Group.{Group as TheGroup}
use Rattle.rcu_part_hand.specs.InPlace.{KeepsSoundInPlace, ReadsHalt, StaysResting}
use Rattle.rcu_part_processor.specs.InPlace.{KeepsAll, view_in}

-- a turn of a group
pub record TurnsOne (turn : GroupTurn) (g h : TheGroup ForeignJob ForeignJob) : Type 0 where
  pub same : SameGroup g.state h.state
  pub turns : TurnsGroup turn g.state h.state

-- a turn of the driver
pub record DrivesOne (turn : DriverTurn) (c d : TheDriver) : Type 0 where
  pub same : SameDriver c d
  pub drives : DrivesBy (driver_board c).processors turn (driver_view c) (driver_view d)

-- the halt word was read, and nothing else changed: by the driver, a processor, a hand or a group
pub record DriverReadsHalt (halted : Bool) (c d : TheDriver) : Type 0 where
  pub same : SameDriver c d
  pub reads : driver_view d ≡ touched halt_word (from_bool halted) (driver_view c)

pub record CpuReadsHalt (halted : Bool) (p q : LentProcessor) : Type 0 where
  pub kept : KeepsProcessor p q
  pub lists : KeepsAll (state_of p) (state_of q)
  pub reads : view_in (state_of q) ≡ touched halt_word (from_bool halted) (view_in (state_of p))

pub record HandReadsHalt (halted : Bool) (h i : LentHand) : Type 0 where
  pub job : i.job ≡ h.job
  pub reads : StaysResting (ReadsHalt (from_bool halted)) (hand_state h) (hand_state i)
  pub sound : KeepsSoundInPlace foreign_key HasKey (hand_state h) (hand_state i)

pub record GroupReadsHalt (halted : Bool) (g h : TheGroup ForeignJob ForeignJob) : Type 0 where
  pub same : SameGroup g.state h.state
  pub members : members_of h.state ≡ members_of g.state
  pub reads : group_view h.state ≡ touched halt_word (from_bool halted) (group_view g.state)

-- a switch was asked for (x: 1 for offloaded, 0 for local), or refused
pub record SwitchesOne (p x : ℕ) (result : Result (Unit {0}) SwitchFault) (c d : TheControl) : Type 0 where
  pub same : SameControl c d
  pub asks : SwitchesBy (control_board c) p x result (control_view c) (control_view d)

pub record RefusesSwitch (p x : ℕ) (fault : Fault) (c d : TheControl) : Type 0 where
  pub refused : SwitchFault
  pub named : fault ≡ switch_refusal refused
  pub refuses : SwitchesOne p x (Err refused) c d

abbrev pub SwitchesControl : ℕ → ℕ → Result (Unit {0}) Fault → TheControl → TheControl → Type 0
SwitchesControl p x result c d = MatchResult result
    (λ _. SwitchesOne p x (Ok tt) c d)
    (λ fault. RefusesSwitch p x fault c d)

-- every processor was shut
pub record ShutsAll (counts : Counts) (c d : TheControl) : Type 0 where
  pub same : SameControl c d
  pub many : counts.n ≡ (control_board c).processors
  pub shuts : Shuts (control_board c).processors counts (control_view c) (control_view d)

-- the halt word was set
pub record Halts (c d : TheControl) : Type 0 where
  pub same : SameControl c d
  pub halts : control_view d ≡ touched halt_word 1 (control_view c)

-- ---- by what the slot's part is

abbrev pub GroupTurnsBy : Result GroupTurn Fault → Part → Part → Type 0
GroupTurnsBy result (Group g) new = Gives Group TurnsOne result g new
GroupTurnsBy result old new = IsRefused (wrong_kind old) result old new

abbrev pub DriverTurnsBy : Result DriverTurn Fault → Part → Part → Type 0
DriverTurnsBy result (Driver d) new = Gives Driver DrivesOne result d new
DriverTurnsBy result old new = IsRefused (wrong_kind old) result old new

abbrev pub ReadsHaltBy : Result Bool Fault → Part → Part → Type 0
ReadsHaltBy result (Driver d) new = Gives Driver DriverReadsHalt result d new
ReadsHaltBy result (Processor p) new = (q : LentProcessor) × (new ≡ Processor q) × WhereRests p.job (Answers CpuReadsHalt) result p q
ReadsHaltBy result (Hand h) new = (i : LentHand) × (new ≡ Hand i) × WhereRests h.job (Answers HandReadsHalt) result h i
ReadsHaltBy result (Group g) new = Gives Group GroupReadsHalt result g new
ReadsHaltBy result old new = IsRefused (not_resting old) result old new

abbrev pub SwitchesPart : ℕ → ℕ → Result (Unit {0}) Fault → Part → Part → Type 0
SwitchesPart p x result (Control c) new = (d : TheControl) × (new ≡ Control d) × SwitchesControl p x result c d
SwitchesPart p x result old new = IsRefused (wrong_kind old) result old new

abbrev pub ShutsBy : Result Counts Fault → Part → Part → Type 0
ShutsBy result (Control c) new = Gives Control ShutsAll result c new
ShutsBy result old new = IsRefused (wrong_kind old) result old new

abbrev pub HaltsBy : Result (Unit {0}) Fault → Part → Part → Type 0
HaltsBy result (Control c) new = Gives Control (λ _ c d. Halts c d) result c new
HaltsBy result old new = IsRefused (wrong_kind old) result old new
