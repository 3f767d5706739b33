-- What polls for a grace period by a processor or control in a slot do, in the words of their own calls.
use Rattle.std.specs.Prelude.{◌≡◌, ℕ, ◌≤◌, ◌↔◌, Bool, IsTrue, Result}
use Rattle.rcu_board.specs.Plays.{looked}
use Rattle.rcu_board.specs.Views.{sight}
use Rattle.rcu_numbers.specs.Numbers.{snap_of}
use Rattle.rcu_part_control.specs.Parts.{SameControl, control_view}
use Rattle.rcu_part_control.specs.Polls.{AsksForCookie}
use Rattle.rcu_part_control.specs.declared.control.Control.{Control as TheControl}
use Rattle.rcu_c_slots.specs.Parts.{Answers, Gives, IsRefused, WhereRests, not_resting}
use Rattle.rcu_c_slots.specs.Processors.{KeepsProcessor, state_of}
use Rattle.rcu_c_slots.specs.declared.fault.Fault.{Fault}
use Rattle.rcu_c_slots.specs.declared.lent.LentProcessor.{LentProcessor}
use Rattle.rcu_c_slots.specs.declared.part.Part.{Part}
use Rattle.rcu_c_slots.specs.declared.part.Part.TheVariants.{Control, Processor}
use Rattle.rcu_part_processor.specs.InPlace.{KeepsAll, StaysResting, view_in}
use Rattle.rcu_part_processor.specs.Polls.{AsksFor}

-- A grace period that begins after the look was asked for, and the cookie is the number at which it will have ended.
pub record StartsPollOne (cookie : ℕ) (p q : LentProcessor) : Type 0 where
  pub kept : KeepsProcessor p q
  pub lists : KeepsAll (state_of p) (state_of q)
  pub cookie_is : cookie ≡ snap_of (sight (view_in (state_of q)))
  pub asked : StaysResting (AsksFor cookie) (state_of p) (state_of q)
  pub later : sight (view_in (state_of p)) ≤ sight (view_in (state_of q))

pub record StartsPollControl (cookie : ℕ) (c d : TheControl) : Type 0 where
  pub same : SameControl c d
  pub cookie_is : cookie ≡ snap_of (sight (control_view d))
  pub asked : AsksForCookie cookie (control_view c) (control_view d)
  pub later : sight (control_view c) ≤ sight (control_view d)

-- The number was looked at, and the cookie's grace period has ended where the number is as great.
pub record PollsStateOne (cookie : ℕ) (elapsed : Bool) (p q : LentProcessor) : Type 0 where
  pub kept : KeepsProcessor p q
  pub lists : KeepsAll (state_of p) (state_of q)
  pub looks : view_in (state_of q) ≡ looked (sight (view_in (state_of q))) (view_in (state_of p))
  pub over : IsTrue elapsed ↔ (cookie ≤ sight (view_in (state_of q)))

pub record PollsStateControl (cookie : ℕ) (elapsed : Bool) (c d : TheControl) : Type 0 where
  pub same : SameControl c d
  pub looks : control_view d ≡ looked (sight (control_view d)) (control_view c)
  pub over : IsTrue elapsed ↔ (cookie ≤ sight (control_view d))

-- ---- by what the slot's part is

abbrev pub StartsPollBy : Result ℕ Fault → Part → Part → Type 0
StartsPollBy result (Control c) new = Gives Control StartsPollControl result c new
StartsPollBy result (Processor p) new = (q : LentProcessor) × (new ≡ Processor q) × WhereRests p.job (Answers StartsPollOne) result p q
StartsPollBy result old new = IsRefused (not_resting old) result old new

abbrev pub PollsStateBy : ℕ → Result Bool Fault → Part → Part → Type 0
PollsStateBy cookie result (Control c) new = Gives Control (PollsStateControl cookie) result c new
PollsStateBy cookie result (Processor p) new = (q : LentProcessor) × (new ≡ Processor q) × WhereRests p.job (Answers (PollsStateOne cookie)) result p q
PollsStateBy cookie result old new = IsRefused (not_resting old) result old new
