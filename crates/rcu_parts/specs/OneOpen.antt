-- The parts of one open: docs/specification/surface.md, "rcu_parts", and promises.md, "Premises".
use Rattle.std.specs.Prelude.{◌≡◌, ℕ, suc, ◌+◌, List, [], ◌∷◌, length, sum_by, All}
use Rattle.std.specs.List.{AllZip, filter, flat_map}
use Rattle.rcu_board.specs.Plays.{all_seats}
use Rattle.rcu_board.specs.declared.board.Board.{Board}
use Rattle.rcu_part_control.specs.Parts.{control_board, control_view, driver_board, driver_view}
use Rattle.rcu_part_lists.specs.ProcessorLists.{rear_of}
use Rattle.rcu_part_lists.specs.Helds.{front_of as hands_front}
use Rattle.rcu_part_lists.specs.MemberLists.{front_of, rear_of as done_rear}
use Rattle.rcu_lanes.specs.Ends.{SameLane}
use Rattle.rcu_part_group.specs.Groups.{group_board, group_view, members_of}
use Rattle.rcu_part_hand.specs.Hands.{IsSoundHand, hand_board, hand_view}
use Rattle.rcu_part_processor.specs.Processors.{IsSound, board_of, view_of}
use Rattle.rcu_part_group.specs.declared.members.GroupMember.{GroupMember}
use Rattle.rcu_part_group.specs.declared.group.Group.{Group}
use Rattle.rcu_part_hand.specs.declared.hand.Hand.{Hand}
use Rattle.rcu_parts.specs.declared.parts.AllParts.{AllParts}
use Rattle.rcu_part_processor.specs.declared.processor.Processor.{Processor}

-- all parts, for jobs of type J with receipts of type R
abbrev pub Parts : Type 0 → Type 0 → Type 0
Parts J R = AllParts (Processor J R) (Group J R) (Hand J R)

module _ {J R : Type 0} where
  abbrev pub processors_in : Parts J R → List (Processor J R)
  processors_in parts = parts.processors.items

  abbrev pub hands_in : Parts J R → List (Hand J R)
  hands_in parts = parts.hands.items

  abbrev pub groups_in : Parts J R → List (Group J R)
  groups_in parts = parts.groups.items

  abbrev pub parts_board : Parts J R → Board
  parts_board parts = control_board parts.control

  -- the members of all groups, in order
  abbrev pub members_in : List (Group J R) → List (GroupMember J)
  members_in groups = flat_map (λ g. members_of g.state) groups

  -- the processors that are offloadable, in order
  abbrev pub offloadable_in : List (Processor J R) → List (Processor J R)
  offloadable_in processors = filter (λ p. p.state.offloadable) processors

  -- These are the processors k, k + 1, .. of a board.
  unfoldable pub AreProcessorsFrom : ℕ → Board → List (Processor J R) → Type 0
  AreProcessorsFrom k b [] = Unit {0}
  AreProcessorsFrom k b (p ∷ ps) = (board_of p.state ≡ b) × (p.state.cpu ≡ k) × AreProcessorsFrom (suc k) b ps

  -- A group has this processor as this member, to which its lane leads.
  pub record HasMember (p : Processor J R) (m : GroupMember J) : Type 0 where
    pub cpu : m.cpu ≡ p.state.cpu
    pub lane : SameLane (front_of m.member) (rear_of p.state.lists)

  -- This member's done lane leads to this hand.
  pub record HasHand (m : GroupMember J) (h : Hand J R) : Type 0 where
    pub cpu : h.state.hand.cpu ≡ m.cpu
    pub lane : SameLane (hands_front h.state.hand.held) (done_rear m.member)

  -- What the seats weigh, which is all there is where none is missing and none is there twice.
  abbrev pub weight_in : Parts J R → ℕ
  weight_in parts = (control_view parts.control).weight + (driver_view parts.driver).weight
      + sum_by (λ g. (group_view g.state).weight) (groups_in parts)
      + sum_by (λ p. (view_of p.state).weight) (processors_in parts)
      + sum_by (λ h. (hand_view h.state).weight) (hands_in parts)

  -- The parts of one open, each once: they are at one board, all of its processors are there, each offloadable one is a member
  -- of a group and has a hand, and their seats are all seats of the board.
  pub record AreOfOneOpen (parts : Parts J R) : Type 0 where
    pub driver : driver_board parts.driver ≡ parts_board parts
    pub processors : AreProcessorsFrom 0 (parts_board parts) (processors_in parts)
    pub as_many : length (processors_in parts) ≡ (parts_board parts).processors
    pub groups : All (λ g. group_board g.state ≡ parts_board parts) (groups_in parts)
    pub hands : All (λ h. hand_board h.state ≡ parts_board parts) (hands_in parts)
    pub members : AllZip HasMember (offloadable_in (processors_in parts)) (members_in (groups_in parts))
    pub running : AllZip HasHand (members_in (groups_in parts)) (hands_in parts)
    pub weighs : weight_in parts ≡ all_seats

  -- What the parts know of jobs: of each processor and each hand.
  pub record AreSoundParts (key_of : J → ℕ) (gives : ℕ → R → Type 0) (parts : Parts J R) : Type 0 where
    pub processors : All (λ p. IsSound key_of gives p.state) (processors_in parts)
    pub hands : All (λ h. IsSoundHand key_of gives h.state) (hands_in parts)
