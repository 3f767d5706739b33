-- Why a close isn't made: docs/c.md, "Answers".
use Rattle.std.specs.Prelude.{◌≡◌, ◌≢◌, ◌<◌, ℕ, Some, None, List, length, slice_get}
use Rattle.std.proofs.Common.{◌⊎◌}
use Rattle.rcu_c_slots.specs.Gathers.{CanTryClose, IsAllThere, IsOfOpen, lents_in}
use Rattle.rcu_c_slots.specs.Parts.{kind_of, not_resting}
use Rattle.rcu_c_slots.specs.declared.fault.Fault.{Fault}
use Rattle.rcu_c_slots.specs.declared.fault.Fault.TheVariants.{Empty, Foreign, Memory, Other, Reading}
use Rattle.rcu_c_slots.specs.declared.part.Lent.{Lent}
use Rattle.rcu_c_slots.specs.declared.part.Opening.{Opening}
use Rattle.rcu_c_slots.specs.declared.part.PartKind.{PartKind}
use Rattle.rcu_c_slots.specs.declared.part.PartKind.TheVariants as kind
use Rattle.rcu_c_slots.specs.declared.slot.PartSlots.{PartSlots}
use Rattle.rcu_c_slots.specs.declared.slot.Slot.{Slot}

-- Why a part doesn't belong at a place: it is of another kind, or a callback of it runs; else it is of another open or of another place.
abbrev pub IsMisplaced : Opening → ℕ → PartKind → Fault → Lent → Type 0
IsMisplaced o k kind fault l = ((fault ≡ not_resting l.part) × (kind_of l.part ≢ kind))
    ⊎ ((fault ≡ Foreign) × (kind_of l.part ≡ kind) × ((l.opening ≡ o) × (l.at ≡ k) → ⊥))

-- Why a slot is refused: a read section is open, or its part doesn't belong at this place.
abbrev pub RefusesSlot : Opening → ℕ → PartKind → Fault → Slot → Type 0
RefusesSlot o k kind fault s = ((fault ≡ Reading) × (s.reading ≢ 0))
    ⊎ ((l : Lent) × (s.held.part.value ≡ Some l) × IsMisplaced o k kind fault l)

-- The same of a slot for one part alone, which may be empty too.
abbrev pub RefusesOwn : Opening → PartKind → Fault → Slot → Type 0
RefusesOwn o kind fault s = RefusesSlot o 0 kind fault s ⊎ ((fault ≡ Empty) × (s.held.part.value ≡ None))

-- One of these slots is refused.
pub record RefusesOne (o : Opening) (kind : PartKind) (fault : Fault) (slots : List Slot) : Type 0 where
  pub place : ℕ
  pub slot : Slot
  pub is : slice_get slots place ≡ Some slot
  pub refused : RefusesSlot o place kind fault slot

-- One of them is, or they have fewer parts than so many, or more.
abbrev pub RefusesEach : Opening → PartKind → ℕ → Fault → List Slot → Type 0
RefusesEach o kind many fault slots = RefusesOne o kind fault slots
    ⊎ (((fault ≡ Empty) × (length (lents_in slots) < many)) ⊎ ((fault ≡ Foreign) × (many < length (lents_in slots))))

-- A part of this open isn't in its slot, or a read section is open.
abbrev pub RefusesAll : Opening → Fault → PartSlots → Type 0
RefusesAll o fault slots = RefusesOwn o kind.Control fault slots.control
    ⊎ (RefusesOwn o kind.Driver fault slots.driver
    ⊎ (RefusesEach o kind.Processor o.processors fault slots.processors
    ⊎ (RefusesEach o kind.Group o.groups fault slots.groups
    ⊎ RefusesEach o kind.Hand o.hands fault slots.hands)))

-- Control's slot is empty, or has a part with which nothing can be closed.
abbrev pub RefusesControl : Fault → Slot → Type 0
RefusesControl fault s = ((fault ≡ Empty) × (s.held.part.value ≡ None))
    ⊎ ((fault ≡ Other) × ((l : Lent) × (s.held.part.value ≡ Some l) × (kind_of l.part ≢ kind.Control) × (kind_of l.part ≢ kind.Closing)))

-- Why a close isn't made: by control's slot alone; by the parts of the open that control is of; or all is there, and memory was refused.
abbrev pub IsWhyNotClosed : Fault → PartSlots → Type 0
IsWhyNotClosed fault slots = RefusesControl fault slots.control
    ⊎ (((o : Opening) × IsOfOpen o kind.Control slots.control.held.part.value × RefusesAll o fault slots)
    ⊎ ((fault ≡ Memory) × CanTryClose slots))

-- The same where control is there.
abbrev pub RefusesFirst : Opening → Fault → PartSlots → Type 0
RefusesFirst o fault slots = RefusesAll o fault slots ⊎ ((fault ≡ Memory) × IsAllThere o slots)
