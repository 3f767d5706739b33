-- The parts that slots have are determined, and so is what close asks of them.
use Rattle.std.proofs.Common.{◌≡◌, ℕ, Bool, true, false, Option, None, Some, List, [], ◌∷◌, length, map, refl, sym, ap, ◌∙◌, subst, arith}
use Rattle.std.specs.List.{All, AllZip, filter_map}
use Rattle.std.specs.Prelude.{sum_by}
use Rattle.rcu_part_control.specs.Parts.{control_board, control_view, driver_board, driver_view}
use Rattle.rcu_part_control.specs.declared.control.Control.{Control as TheControl}
use Rattle.rcu_part_control.specs.declared.driver.Driver.{Driver as TheDriver}
use Rattle.rcu_board.specs.declared.board.Board.{Board}
use Rattle.rcu_c_slots.specs.Gathers.{AreHeld, AreOfTheOpen, CanClose, ForeignParts}
use Rattle.rcu_c_slots.specs.Opens.{OpensInto}
use Rattle.rcu_c_slots.specs.Processors.{ForeignCpu, HasKey, foreign_key, lent_processor}
use Rattle.rcu_c_slots.specs.Runs.{ForeignHand, lent_hand}
use Rattle.rcu_c_slots.specs.declared.job.ForeignJob.{ForeignJob}
use Rattle.rcu_c_slots.specs.declared.part.Lent.{Lent}
use Rattle.rcu_c_slots.specs.declared.part.Opening.{Opening}
use Rattle.rcu_c_slots.specs.declared.part.Part.{Part}
use Rattle.rcu_c_slots.specs.declared.part.Part.TheVariants.{Control, Driver, Group, Hand, Nothing, Processor}
use Rattle.rcu_c_slots.specs.declared.slot.PartSlots.{PartSlots}
use Rattle.rcu_numbers.specs.declared.parts_shape.PartsShape.{PartsShape}
use Rattle.rcu_part_group.specs.Groups.{group_board, group_view}
use Rattle.rcu_part_group.specs.declared.group.Group.{Group as TheGroup}
use Rattle.rcu_part_hand.specs.Hands.{IsSoundHand, hand_board, hand_view}
use Rattle.rcu_part_hand.specs.InPlace as hand
use Rattle.rcu_part_hand.specs.declared.in_place.HandInPlaceState.{HandInPlaceState}
use Rattle.rcu_part_processor.specs.InPlace.{resting}
use Rattle.rcu_part_processor.specs.Processors.{IsSound, view_of}
use Rattle.rcu_part_processor.specs.declared.in_place.ProcessorInPlaceState.{ProcessorInPlaceState}
use Rattle.rcu_part_steps.specs.declared.begins.ClaimedCallback.{ClaimedCallback}
use Rattle.rcu_part_order.specs.declared.recorded.Kept.{Kept}
use Rattle.rcu_parts.specs.OneOpen.{AreOfOneOpen, AreProcessorsFrom, AreSoundParts, HasHand, HasMember, groups_in, hands_in, members_in, offloadable_in, parts_board, processors_in}

abbrev ForeignGroup : Type 0
ForeignGroup = TheGroup ForeignJob ForeignJob

-- ---- a part of one kind is known by the slot that has it

abbrev part_in : Option Lent → Part
part_in (Some l) = l.part
part_in None = Nothing

abbrev control_in : TheControl → Part → TheControl
control_in d (Control c) = c
control_in d part = d

abbrev driver_in : TheDriver → Part → TheDriver
driver_in d (Driver c) = c
driver_in d part = d

-- a processor by itself, where no callback of it runs
abbrev processor_by : (s : ProcessorInPlaceState ForeignJob ForeignJob) (o : Option ClaimedCallback) → s.claimed ≡ o → Option ForeignCpu
processor_by s None e = Some (record { state = resting s e })
processor_by s (Some c) e = None

abbrev hand_by : (s : HandInPlaceState ForeignJob ForeignJob) (o : Option ClaimedCallback) → s.claimed ≡ o → Option ForeignHand
hand_by s None e = Some (record { state = hand.resting s e })
hand_by s (Some c) e = None

abbrev processor_in : Part → Option ForeignCpu
processor_in (Processor l) = processor_by l.processor.state l.processor.state.claimed refl
processor_in part = None

abbrev group_in : Part → Option ForeignGroup
group_in (Group g) = Some g
group_in part = None

abbrev hand_in : Part → Option ForeignHand
hand_in (Hand l) = hand_by l.hand.state l.hand.state.claimed refl
hand_in part = None

abbrev is_control : Part → Bool
is_control (Control c) = true
is_control part = false

processors_back : (ps : List ForeignCpu) → filter_map processor_in (map (λ p. Processor (lent_processor p)) ps) ≡ ps
processors_back [] = refl
processors_back (p ∷ ps) = ap (λ xs. p ∷ xs) (processors_back ps)

groups_back : (gs : List ForeignGroup) → filter_map group_in (map (λ g. Group g) gs) ≡ gs
groups_back [] = refl
groups_back (g ∷ gs) = ap (λ xs. g ∷ xs) (groups_back gs)

hands_back : (hs : List ForeignHand) → filter_map hand_in (map (λ h. Hand (lent_hand h)) hs) ≡ hs
hands_back [] = refl
hands_back (h ∷ hs) = ap (λ xs. h ∷ xs) (hands_back hs)

-- ---- what close asks is of the parts alone, wherever their lists stand

module _ (parts others : ForeignParts) (d : parts.driver ≡ others.driver) (c : parts.control ≡ others.control) (ps : processors_in parts ≡ processors_in others)
    (gs : groups_in parts ≡ groups_in others) (hs : hands_in parts ≡ hands_in others) where
  board : parts_board others ≡ parts_board parts
  board = sym (ap control_board c)

  one_same : AreOfOneOpen others → AreOfOneOpen parts
  one_same o = record {
    driver = ap driver_board d ∙ (o.driver ∙ board);
    processors = subst (λ (b : Board). AreProcessorsFrom 0 b (processors_in parts)) board (subst (λ (xs : List ForeignCpu). AreProcessorsFrom 0 (parts_board others) xs) (sym ps) o.processors);
    as_many = ap length ps ∙ (o.as_many ∙ ap (λ (b : Board). b.processors) board);
    groups = subst (λ (b : Board). All (λ (g : ForeignGroup). group_board g.state ≡ b) (groups_in parts)) board (subst (λ (xs : List ForeignGroup). All (λ (g : ForeignGroup). group_board g.state ≡ parts_board others) xs) (sym gs) o.groups);
    hands = subst (λ (b : Board). All (λ (h : ForeignHand). hand_board h.state ≡ b) (hands_in parts)) board (subst (λ (xs : List ForeignHand). All (λ (h : ForeignHand). hand_board h.state ≡ parts_board others) xs) (sym hs) o.hands);
    members = subst (λ (xs : List ForeignCpu). AllZip HasMember (offloadable_in xs) (members_in (groups_in parts))) (sym ps) (subst (λ (xs : List ForeignGroup). AllZip HasMember (offloadable_in (processors_in others)) (members_in xs)) (sym gs) o.members);
    running = subst (λ (xs : List ForeignGroup). AllZip HasHand (members_in xs) (hands_in parts)) (sym gs) (subst (λ (xs : List ForeignHand). AllZip HasHand (members_in (groups_in others)) xs) (sym hs) o.running);
    weighs =
        let w1 = ap (λ (x : TheControl). (control_view x).weight) c in let w2 = ap (λ (x : TheDriver). (driver_view x).weight) d in
        let w3 = ap (λ (xs : List ForeignGroup). sum_by (λ g. (group_view g.state).weight) xs) gs in
        let w4 = ap (λ (xs : List ForeignCpu). sum_by (λ p. (view_of p.state).weight) xs) ps in
        let w5 = ap (λ (xs : List ForeignHand). sum_by (λ h. (hand_view h.state).weight) xs) hs in
        let w = o.weighs in omega (arith, w1, w2, w3, w4, w5, w);
  }

  sound_same : AreSoundParts foreign_key HasKey others → AreSoundParts foreign_key HasKey parts
  sound_same s = record {
    processors = subst (λ (xs : List ForeignCpu). All (λ (p : ForeignCpu). IsSound foreign_key HasKey p.state) xs) (sym ps) s.processors;
    hands = subst (λ (xs : List ForeignHand). All (λ (h : ForeignHand). IsSoundHand foreign_key HasKey h.state) xs) (sym hs) s.hands;
  }

  can_close_same : CanClose others → CanClose parts
  can_close_same e = (one_same e.0, sound_same e.1)

-- two that the same slots have
both_held : (o p : Opening) (parts others : ForeignParts) (slots : PartSlots) → AreHeld o parts slots → AreHeld p others slots → CanClose others → CanClose parts
both_held o p parts others slots h k = can_close_same parts others
    (ap (λ (x : Option Lent). driver_in parts.driver (part_in x)) (sym h.driver_is ∙ k.driver_is))
    (ap (λ (x : Option Lent). control_in parts.control (part_in x)) (sym h.control_is ∙ k.control_is))
    (sym (processors_back (processors_in parts)) ∙ (ap (filter_map processor_in) (sym h.processors_are ∙ k.processors_are) ∙ processors_back (processors_in others)))
    (sym (groups_back (groups_in parts)) ∙ (ap (filter_map group_in) (sym h.groups_are ∙ k.groups_are) ∙ groups_back (groups_in others)))
    (sym (hands_back (hands_in parts)) ∙ (ap (filter_map hand_in) (sym h.hands_are ∙ k.hands_are) ∙ hands_back (hands_in others)))

pub opened_of_the_open : (kept : Kept) (shape : PartsShape) (number : ℕ) (slots : PartSlots) → OpensInto kept shape number slots → AreOfTheOpen slots
opened_of_the_open kept shape number slots o = record {
  first = λ p parts h. both_held p o.opening parts o.parts slots h o.held o.new.can_close;
  again = λ l closing is part.
      let f : true ≡ false = ap (λ (x : Option Lent). is_control (part_in x)) (sym o.held.control_is ∙ is) ∙ ap is_control part in absurd (let g = f in cc);
}
