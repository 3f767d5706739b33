-- What open does: the parts of a new runtime in boxes, and then each in the slot of its place.
use Rattle.std.specs.Prelude.{◌≡◌, ◌≢◌, ℕ, suc, ◌<◌, ◌≤◌, Option, Some, None, IfSome, List, [], ◌∷◌, length, map, ⊤}
use Rattle.std.specs.Global.{Box}
use Rattle.std.proofs.Common.{◌⊎◌}
use Rattle.rcu_numbers.specs.declared.parts_shape.PartsShape.{PartsShape}
use Rattle.rcu_c_slots.specs.Gathers.{AreHeld, CanClose, ForeignParts, lent_of, lents_in}
use Rattle.rcu_c_slots.specs.Processors.{ForeignCpu, lent_processor}
use Rattle.rcu_c_slots.specs.Runs.{ForeignHand, lent_hand}
use Rattle.rcu_c_slots.specs.declared.fault.Fault.{Fault}
use Rattle.rcu_c_slots.specs.declared.fault.Fault.TheVariants.{Full, Memory}
use Rattle.rcu_c_slots.specs.declared.job.ForeignJob.{ForeignJob}
use Rattle.rcu_c_slots.specs.declared.opening.Boxes.{Boxes}
use Rattle.rcu_c_slots.specs.declared.part.Lent.{Lent}
use Rattle.rcu_c_slots.specs.declared.part.Opening.{Opening}
use Rattle.rcu_c_slots.specs.declared.part.Part.{Part}
use Rattle.rcu_c_slots.specs.declared.part.Part.TheVariants.{Control, Driver, Group, Hand, Processor}
use Rattle.rcu_c_slots.specs.declared.slot.PartSlots.{PartSlots}
use Rattle.rcu_part_group.specs.declared.group.Group.{Group as TheGroup}
use Rattle.rcu_parts.specs.OneOpen.{groups_in, hands_in, processors_in}
use Rattle.rcu_parts.specs.Openings.{IsOpenedWith}
use Rattle.rcu_part_order.specs.declared.recorded.Kept.{Kept}

-- No slot has a part.
pub record AreEmpty (slots : PartSlots) : Type 0 where
  pub control_is : slots.control.held.part.value ≡ None
  pub driver_is : slots.driver.held.part.value ≡ None
  pub processors_are : lents_in slots.processors ≡ []
  pub groups_are : lents_in slots.groups ≡ []
  pub hands_are : lents_in slots.hands ≡ []

-- Why nothing was opened: a slot has a part; or all are empty, and memory was refused.
abbrev pub RefusesOpen : Fault → PartSlots → Type 0
RefusesOpen fault slots = ((fault ≡ Full) × (AreEmpty slots → ⊥)) ⊎ ((fault ≡ Memory) × AreEmpty slots)

-- what boxes have
abbrev pub boxed : List (Box Lent) → List Lent
boxed boxes = map (λ b. b.value) boxes

-- for which places
abbrev pub places_of : List Lent → List ℕ
places_of ls = map (λ l. l.at) ls

-- Numbers that rise, from k on, below `end`.
abbrev pub AreRising : ℕ → ℕ → List ℕ → Type 0
AreRising k end [] = ⊤
AreRising k end (n ∷ ns) = (k ≤ n) × (n < end) × AreRising (suc n) end ns

-- The parts in a list of slots are for the places k, k + 1, ..
abbrev pub AreAt : ℕ → List (Option Lent) → Type 0
AreAt k [] = ⊤
AreAt k (held ∷ rest) = IfSome held (λ l. l.at ≡ k) × AreAt (suc k) rest

-- The first isn't for this place.
abbrev pub BeginsElsewhere : ℕ → List Lent → Type 0
BeginsElsewhere place [] = ⊤
BeginsElsewhere place (l ∷ ls) = l.at ≢ place

-- The first is for this place, and is taken; or it isn't, or there is none.
abbrev pub TakesAt : ℕ → Option (Box Lent) → List Lent → List Lent → Type 0
TakesAt place (Some b) old new = (b.value.at ≡ place) × (old ≡ b.value ∷ new)
TakesAt place None old new = (new ≡ old) × BeginsElsewhere place old

-- each part at the place of its number
abbrev pub lent_each : {X : Type 0} → Opening → (X → ℕ) → (X → Part) → List X → List Lent
lent_each o number wrap xs = map (λ x. lent_of o (number x) (wrap x)) xs

abbrev pub lent_processors : Opening → List ForeignCpu → List Lent
lent_processors o ps = lent_each o (λ p. p.state.cpu) (λ p. Processor (lent_processor p)) ps

abbrev pub lent_groups : Opening → List (TheGroup ForeignJob ForeignJob) → List Lent
lent_groups o gs = lent_each o (λ g. g.state.group) (λ g. Group g) gs

abbrev pub lent_hands : Opening → List ForeignHand → List Lent
lent_hands o hs = lent_each o (λ h. h.state.hand.cpu) (λ h. Hand (lent_hand h)) hs

-- These are as many of each kind as the open made.
pub record AreAsMany (o : Opening) (parts : ForeignParts) : Type 0 where
  pub processors : length (processors_in parts) ≡ o.processors
  pub groups : length (groups_in parts) ≡ o.groups
  pub hands : length (hands_in parts) ≡ o.hands

-- These boxes have the parts of an open, each for its place.
pub record AreBoxed (o : Opening) (parts : ForeignParts) (boxes : Boxes) : Type 0 where
  pub many : AreAsMany o parts
  pub control_is : boxes.control.value ≡ lent_of o 0 (Control parts.control)
  pub driver_is : boxes.driver.value ≡ lent_of o 0 (Driver parts.driver)
  pub processors_are : boxed boxes.processors.items ≡ lent_processors o (processors_in parts)
  pub groups_are : boxed boxes.groups.items ≡ lent_groups o (groups_in parts)
  pub hands_are : boxed boxes.hands.items ≡ lent_hands o (hands_in parts)

-- Parts were boxed under an open's number.
pub record BoxesAll (number : ℕ) (parts : ForeignParts) (boxes : Boxes) : Type 0 where
  pub opening : Opening
  pub named : opening.number ≡ number
  pub boxed : AreBoxed opening parts boxes

-- What is known of new parts: they are those of a new board of this shape, which keep so much of what runs, and can be closed.
pub record AreNew (kept : Kept) (shape : PartsShape) (parts : ForeignParts) : Type 0 where
  pub opened : IsOpenedWith kept shape parts
  pub can_close : CanClose parts

-- A new runtime was opened, and boxed.
pub record OpensBoxes (kept : Kept) (shape : PartsShape) (number : ℕ) (boxes : Boxes) : Type 0 where
  pub parts : ForeignParts
  pub new : AreNew kept shape parts
  pub boxes_all : BoxesAll number parts boxes

-- Each processor, group and hand is for the place of its own number.
pub record AreAtHome (o : Opening) (parts : ForeignParts) (slots : PartSlots) : Type 0 where
  pub processors_are : lents_in slots.processors ≡ lent_processors o (processors_in parts)
  pub groups_are : lents_in slots.groups ≡ lent_groups o (groups_in parts)
  pub hands_are : lents_in slots.hands ≡ lent_hands o (hands_in parts)

-- The slots have all parts of a new runtime under this number, each in the place of its own number.
pub record OpensInto (kept : Kept) (shape : PartsShape) (number : ℕ) (slots : PartSlots) : Type 0 where
  pub parts : ForeignParts
  pub new : AreNew kept shape parts
  pub opening : Opening
  pub named : opening.number ≡ number
  pub held : AreHeld opening parts slots
  pub at_home : AreAtHome opening parts slots
