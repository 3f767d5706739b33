-- What slots have: the parts of one open, each in its place.
use Rattle.std.specs.Prelude.{◌≡◌, ℕ, suc, true, false, Option, Some, None, IfSome, List, [], ◌∷◌, length, map, MatchOption, MatchResult, Result, IsErr, All, ⊤}
use Rattle.std.specs.List.{filter_map}
use Rattle.std.proofs.Common.{◌⊎◌}
use Rattle.rcu_jobs.specs.declared.answers.Closed.{Closed as Ends}
use Rattle.rcu_c_slots.specs.Parts.{is_closed, kind_of}
use Rattle.rcu_c_slots.specs.Processors.{ForeignCpu, HasKey, foreign_key, lent_processor}
use Rattle.rcu_c_slots.specs.Runs.{lent_hand}
use Rattle.rcu_c_slots.specs.declared.fault.Fault.{Fault}
use Rattle.rcu_c_slots.specs.declared.fault.Fault.TheVariants.{Empty, Memory, Other}
use Rattle.rcu_c_slots.specs.declared.job.ForeignJob.{ForeignJob}
use Rattle.rcu_c_slots.specs.declared.part.Lent.{Lent}
use Rattle.rcu_c_slots.specs.declared.part.Opening.{Opening}
use Rattle.rcu_c_slots.specs.declared.part.Part.{Part}
use Rattle.rcu_c_slots.specs.declared.part.PartKind.{PartKind}
use Rattle.rcu_c_slots.specs.declared.part.Part.TheVariants.{Closed, Closing, Control, Driver, Group, Hand, Nothing, Processor}
use Rattle.rcu_c_slots.specs.declared.part.PartKind.TheVariants as kind
use Rattle.rcu_c_slots.specs.declared.slot.PartSlots.{PartSlots}
use Rattle.rcu_c_slots.specs.declared.slot.Slot.{Slot}
use Rattle.rcu_parts.specs.AtClose.{ClosesWith}
use Rattle.rcu_parts.specs.OneOpen.{AreOfOneOpen, AreSoundParts, Parts, groups_in, hands_in, processors_in}
use Rattle.rcu_parts.specs.declared.closing.AllClosing.{AllClosing}
use Rattle.rcu_part_group.specs.declared.group.Group.{Group as TheGroup}
use Rattle.rcu_part_hand.specs.declared.hand.Hand.{Hand as TheHand}

-- what each slot has
abbrev pub held_in : List Slot → List (Option Lent)
held_in slots = map (λ s. s.held.part.value) slots

-- those that there are, in order
abbrev pub lents : List (Option Lent) → List Lent
lents held = filter_map (λ h. h) held

abbrev pub parts_of : List (Option Lent) → List Part
parts_of held = map (λ l. l.part) (lents held)

abbrev pub lents_in : List Slot → List Lent
lents_in slots = lents (held_in slots)

abbrev pub parts_in : List Slot → List Part
parts_in slots = parts_of (held_in slots)

-- The part in a slot is of this open and belongs at this place.
abbrev pub IsInPlace : Opening → ℕ → Option Lent → Type 0
IsInPlace o k held = IfSome held (λ l. (l.opening ≡ o) × (l.at ≡ k))

-- Those of a list of slots belong at the places k, k + 1, ..
abbrev pub AreInPlace : Opening → ℕ → List (Option Lent) → Type 0
AreInPlace o k [] = ⊤
AreInPlace o k (held ∷ rest) = IsInPlace o k held × AreInPlace o (suc k) rest

-- These are of one kind, in their places, and so many.
pub record AreChecked (o : Opening) (kind : PartKind) (many : ℕ) (held : List (Option Lent)) : Type 0 where
  pub places : AreInPlace o 0 held
  pub kinds : All (λ l. kind_of l.part ≡ kind) (lents held)
  pub count : length (lents held) ≡ many

-- What was in a slot came out, if there was a part.
abbrev pub TakesOut : {X : Type 0} → (X → Part) → Option X → Option Lent → Type 0
TakesOut wrap taken held = MatchOption taken (held ≡ None) (λ x. (l : Lent) × (held ≡ Some l) × (l.part ≡ wrap x))

abbrev pub ForeignParts : Type 0
ForeignParts = Parts ForeignJob ForeignJob

abbrev pub ForeignClosing : Type 0
ForeignClosing = AllClosing ForeignCpu (TheGroup ForeignJob ForeignJob) (TheHand ForeignJob ForeignJob)

abbrev pub lent_of : Opening → ℕ → Part → Lent
lent_of o k part = record { opening = o; at = k; part = part }

-- There is a part of this kind; this is the part there; and the part is exchanged for this one, in the same box.
abbrev pub HasKind : PartKind → Option Lent → Type 0
HasKind kind held = (l : Lent) × (held ≡ Some l) × (kind_of l.part ≡ kind)

abbrev pub IsOfOpen : Opening → PartKind → Option Lent → Type 0
IsOfOpen o kind held = (l : Lent) × (held ≡ Some l) × (l.opening ≡ o) × (kind_of l.part ≡ kind)

abbrev pub HasPart : Part → Option Lent → Type 0
HasPart part held = (l : Lent) × (held ≡ Some l) × (l.part ≡ part)

abbrev pub Keeps : Part → Option Lent → Option Lent → Type 0
Keeps part old new = (l : Lent) × (old ≡ Some l) × (new ≡ Some (lent_of l.opening l.at part))

-- These slots have exactly these parts, as many of each kind as the open made, each in its place.
pub record AreHeld (o : Opening) (parts : ForeignParts) (slots : PartSlots) : Type 0 where
  pub control_is : slots.control.held.part.value ≡ Some (lent_of o 0 (Control parts.control))
  pub driver_is : slots.driver.held.part.value ≡ Some (lent_of o 0 (Driver parts.driver))
  pub processors_are : parts_in slots.processors ≡ map (λ p. Processor (lent_processor p)) (processors_in parts)
  pub groups_are : parts_in slots.groups ≡ map (λ g. Group g) (groups_in parts)
  pub hands_are : parts_in slots.hands ≡ map (λ h. Hand (lent_hand h)) (hands_in parts)
  pub processors_at : AreInPlace o 0 (held_in slots.processors)
  pub groups_at : AreInPlace o 0 (held_in slots.groups)
  pub hands_at : AreInPlace o 0 (held_in slots.hands)
  pub many_processors : length (processors_in parts) ≡ o.processors
  pub many_groups : length (groups_in parts) ≡ o.groups
  pub many_hands : length (hands_in parts) ≡ o.hands

-- What is left of a runtime that was closed is there; and why a slot has nothing to let go.
abbrev pub HasEnds : Option Lent → Type 0
HasEnds held = (l : Lent) × (held ≡ Some l) × (is_closed l.part ≡ true)

abbrev pub RefusesEnd : Fault → Option Lent → Type 0
RefusesEnd fault None = fault ≡ Empty
RefusesEnd fault (Some l) = (fault ≡ Other) × (is_closed l.part ≡ false)

-- ---- what the program owes at close

-- what close asks of all parts
abbrev pub CanClose : ForeignParts → Type 0
CanClose parts = AreOfOneOpen parts × AreSoundParts foreign_key HasKey parts

-- What control's slot has after a close for which there was no memory can be closed.
abbrev pub OwesAgain : Slot → Type 0
OwesAgain control = (l : Lent) (closing : ForeignClosing) → control.held.part.value ≡ Some l → l.part ≡ Closing closing → CanClose closing.parts

-- Slots that have all parts of an open, by its number and their places, have the parts that this open made, as its calls left
-- them; and so has control's slot after a close for which there was no memory.
pub record AreOfTheOpen (slots : PartSlots) : Type 0 where
  pub first : (o : Opening) (parts : ForeignParts) → AreHeld o parts slots → CanClose parts
  pub again : OwesAgain slots.control

-- ---- what close tests

-- A part of this kind is in its place in a slot of its own.
pub record IsThere (o : Opening) (kind : PartKind) (held : Option Lent) : Type 0 where
  pub lent : Lent
  pub is : held ≡ Some lent
  pub place : (lent.opening ≡ o) × (lent.at ≡ 0)
  pub of_kind : kind_of lent.part ≡ kind

pub record AreReady (o : Opening) (slots : PartSlots) : Type 0 where
  pub control_is : IsThere o kind.Control slots.control.held.part.value
  pub driver_is : IsThere o kind.Driver slots.driver.held.part.value
  pub processors_are : AreChecked o kind.Processor o.processors (held_in slots.processors)
  pub groups_are : AreChecked o kind.Group o.groups (held_in slots.groups)
  pub hands_are : AreChecked o kind.Hand o.hands (held_in slots.hands)

-- It belongs there: it is of this kind and of this open, for this place.
abbrev pub BelongsAt : Opening → ℕ → PartKind → Lent → Type 0
BelongsAt o k kind l = (kind_of l.part ≡ kind) × (l.opening ≡ o) × (l.at ≡ k)

-- how many read sections are open of each slot
abbrev pub sections_in : List Slot → List ℕ
sections_in slots = map (λ s. s.reading) slots

-- Of each slot as many read sections are open as were.
pub record StayRead (old new : PartSlots) : Type 0 where
  pub control_stays : new.control.reading ≡ old.control.reading
  pub driver_stays : new.driver.reading ≡ old.driver.reading
  pub processors_stay : sections_in new.processors ≡ sections_in old.processors
  pub groups_stay : sections_in new.groups ≡ sections_in old.groups
  pub hands_stay : sections_in new.hands ≡ sections_in old.hands

-- A slot has what it had; the part in it is exchanged for this one, in the same box; or it is empty. And as many read sections of
-- it are open as were.
pub record StaysSlot (old new : Slot) : Type 0 where
  pub held : new.held.part.value ≡ old.held.part.value
  pub reading : new.reading ≡ old.reading

pub record KeepsSlot (part : Part) (old new : Slot) : Type 0 where
  pub box : Keeps part old.held.part.value new.held.part.value
  pub reading : new.reading ≡ old.reading

pub record EmptiesSlot (old new : Slot) : Type 0 where
  pub empty : new.held.part.value ≡ None
  pub reading : new.reading ≡ old.reading

-- All slots of a kind are empty, and of each as many read sections are open as were.
pub record EmptiesEach (old new : List Slot) : Type 0 where
  pub empty : lents_in new ≡ []
  pub sections : sections_in new ≡ sections_in old

-- No read section is open.
abbrev pub AreUnread : List Slot → Type 0
AreUnread slots = All (λ s. s.reading ≡ 0) slots

-- All parts of an open are in their slots, and no read section is open.
pub record IsAllThere (o : Opening) (slots : PartSlots) : Type 0 where
  pub ready : AreReady o slots
  pub control_unread : slots.control.reading ≡ 0
  pub driver_unread : slots.driver.reading ≡ 0
  pub processors_unread : AreUnread slots.processors
  pub groups_unread : AreUnread slots.groups
  pub hands_unread : AreUnread slots.hands

-- Then a close is refused for want of memory alone; and so where control's slot has the parts after a close for which there was none.
abbrev pub CanTryClose : PartSlots → Type 0
CanTryClose slots = ((o : Opening) × IsAllThere o slots) ⊎ HasKind kind.Closing slots.control.held.part.value

-- What the slots have is what they had.
pub record StayHeld (old new : PartSlots) : Type 0 where
  pub control_stays : new.control.held.part.value ≡ old.control.held.part.value
  pub driver_stays : new.driver.held.part.value ≡ old.driver.held.part.value
  pub processors_stay : held_in new.processors ≡ held_in old.processors
  pub groups_stay : held_in new.groups ≡ held_in old.groups
  pub hands_stay : held_in new.hands ≡ held_in old.hands

-- The same, and of each slot as many read sections are open as were.
pub record StaySlots (old new : PartSlots) : Type 0 where
  pub held : StayHeld old new
  pub sections : StayRead old new

-- ---- what close does

-- All slots are empty but control's.
pub record AreEmptied (slots : PartSlots) : Type 0 where
  pub driver_is : slots.driver.held.part.value ≡ None
  pub processors_are : lents_in slots.processors ≡ []
  pub groups_are : lents_in slots.groups ≡ []
  pub hands_are : lents_in slots.hands ≡ []

-- All parts leave their slots, but the box of control's stays. Of each slot as many read sections are open as were.
pub record EmptiesAll (old new : PartSlots) : Type 0 where
  pub emptied : AreEmptied new
  pub control : Keeps Nothing old.control.held.part.value new.control.held.part.value
  pub sections : StayRead old new

-- Parts were closed: control's slot has what is left of them, of which all is true that `close` promises.
pub record HasClosed (parts : ForeignParts) (control : Slot) : Type 0 where
  pub closed : Ends ForeignJob ForeignJob
  pub control_is : HasPart (Closed closed) control.held.part.value
  pub closes : ClosesWith foreign_key HasKey parts closed

-- There was no memory to close parts: control's slot has them all.
pub record HasNotClosed (parts : ForeignParts) (control : Slot) : Type 0 where
  pub closing : ForeignClosing
  pub control_is : HasPart (Closing closing) control.held.part.value
  pub left : closing.parts ≡ parts

-- Parts were closed, or for want of memory are all with control.
abbrev pub ComesTo : ForeignParts → Result (Unit {0}) Fault → Slot → Type 0
ComesTo parts result control = MatchResult result (λ _. HasClosed parts control) (λ fault. (fault ≡ Memory) × HasNotClosed parts control)

-- The parts that the slots had were closed, or for want of memory are all with control.
pub record Closes (result : Result (Unit {0}) Fault) (old new : PartSlots) : Type 0 where
  pub opening : Opening
  pub parts : ForeignParts
  pub held : AreHeld opening parts old
  pub emptied : AreEmptied new
  pub comes_to : ComesTo parts result new.control

-- The same of the parts that control's slot has after a close for which there was no memory.
pub record ClosesAgain (result : Result (Unit {0}) Fault) (old new : Slot) : Type 0 where
  pub closing : ForeignClosing
  pub had : HasPart (Closing closing) old.held.part.value
  pub comes_to : ComesTo closing.parts result new

-- A close that isn't made changes no slot.
abbrev pub RefusesClose : Result (Unit {0}) Fault → PartSlots → PartSlots → Type 0
RefusesClose result old new = IsErr result × StayHeld old new

-- A close of parts that are in their slots is made, or isn't. Of each slot as many read sections are open as were.
pub record ClosesFirst (result : Result (Unit {0}) Fault) (old new : PartSlots) : Type 0 where
  pub closes : Closes result old new ⊎ RefusesClose result old new
  pub sections : StayRead old new
