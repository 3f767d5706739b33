-- The parts of a new board: docs/specification/promises.md, "Headline on the running parts", open, and rules.md, "Groups".
use Rattle.std.specs.Prelude.{◌≡◌, ◌≢◌, ℕ, ◌/◌, ◌==◌, ◌&&◌, Bool, true, false, Option, Some, None, List, [], ◌∷◌, ◌++◌, map, All}
use Rattle.std.specs.List.{AllZip, range_with_len}
use Rattle.rcu_board.specs.Opened.{IsNewGroup, IsNewHand, IsNewProcessor, has_offloadable, is_offloadable, numbers_where}
use Rattle.rcu_board.specs.Opened.{IsNew as IsNewSeat}
use Rattle.rcu_board.specs.declared.board.Board.{Board}
use Rattle.rcu_board.specs.declared.board.Role.TheVariants.{Control, Driver}
use Rattle.rcu_part_control.specs.Parts.{control_seat, driver_seat, driver_view}
use Rattle.rcu_part_lists.specs.ProcessorLists.{first_holding, rear_of}
use Rattle.rcu_part_lists.specs.MemberLists.{front_of}
use Rattle.rcu_part_lists.specs.declared.limits.LaneLimits.{LaneLimits}
use Rattle.rcu_lanes.specs.Ends.{IsNewLane}
use Rattle.rcu_lanes.specs.declared.ends.Front.{Front}
use Rattle.rcu_lists.specs.declared.parcel.Parcel.{Parcel}
use Rattle.rcu_numbers.specs.declared.parts_shape.PartsShape.{PartsShape}
use Rattle.rcu_part_group.specs.GroupLaw.{cpus_of}
use Rattle.rcu_part_group.specs.Groups.{IsEmptyGroupMember, IsNewGroupOf, members_of}
use Rattle.rcu_part_hand.specs.Hands.{IsNewHandOf, hand_drawn, hand_held}
use Rattle.rcu_part_order.specs.declared.recorded.Kept.{Kept}
use Rattle.rcu_part_order.specs.declared.recorded.Kept.TheVariants.{Whole}
use Rattle.rcu_parts.specs.OneOpen.{Parts, groups_in, hands_in, offloadable_in, parts_board, processors_in}
use Rattle.rcu_part_processor.specs.Opened.{IsNew}
use Rattle.rcu_part_processor.specs.Processors.{lists_of, seat_of}
use Rattle.rcu_part_group.specs.declared.members.GroupMember.{GroupMember}
use Rattle.rcu_part_group.specs.declared.group.Group.{Group}
use Rattle.rcu_part_hand.specs.declared.hand.Hand.{Hand}
use Rattle.rcu_part_processor.specs.declared.processor.Processor.{Processor}

-- Is processor p a member of group g, where so many neighbours make a group? The members are the offloadable ones.
abbrev pub is_member : ℕ → ℕ → ℕ → ℕ → Bool
is_member mask stride g p = is_offloadable mask p && (p / stride == g)

module _ {J R : Type 0} where
  -- Processor k of a board: its seat has made no step, its lists are empty, and it has accepted nothing.
  pub record IsFirstProcessor (shape : PartsShape) (kept : Kept) (b : Board) (k : ℕ) (p : Processor J R) : Type 0 where
    pub seat : IsNewProcessor b k (seat_of p.state)
    pub lists : lists_of p.state ≡ first_holding (is_offloadable b.offloadable k) shape.qhimark
    pub part : IsNew shape b k (seat_of p.state) p.state.lists kept p.state

  -- The hand of processor k of a board: its seat has made no step, and it has drawn and run nothing.
  pub record IsFirstHand (shape : PartsShape) (kept : Kept) (b : Board) (k : ℕ) (h : Hand J R) : Type 0 where
    pub seat : IsNewHand b k h.state.hand.seat
    pub empty : (hand_drawn h.state ≡ []) × (hand_held h.state ≡ [])
    pub part : IsNewHandOf shape b k h.state.hand.seat h.state.hand.held kept h.state

  -- Group g of a board: its seat has made no step, and its members are its offloadable processors, of which nothing has come.
  pub record IsFirstGroup (shape : PartsShape) (b : Board) (g : ℕ) (group : Group J R) : Type 0 where
    pub seat : IsNewGroup b g group.state.seat
    pub members : cpus_of (members_of group.state) ≡ numbers_where (is_member b.offloadable shape.stride g) 0 b.processors
    pub empty : All IsEmptyGroupMember (members_of group.state)
    pub part : IsNewGroupOf shape b g group.state.seat (members_of group.state) group.state

  -- There is one for each processor from 0 on, each offloadable one has a hand, and each group with an offloadable member is
  -- there, all in rising order.
  abbrev pub AreFirstProcessors : PartsShape → Kept → Board → List (Processor J R) → Type 0
  AreFirstProcessors shape kept b ps = AllZip (IsFirstProcessor shape kept b) (range_with_len 0 b.processors) ps

  abbrev pub AreFirstHands : PartsShape → Kept → Board → List (Hand J R) → Type 0
  AreFirstHands shape kept b hs = AllZip (IsFirstHand shape kept b) (numbers_where (is_offloadable b.offloadable) 0 b.processors) hs

  abbrev pub AreFirstGroups : PartsShape → Board → List (Group J R) → Type 0
  AreFirstGroups shape b gs = AllZip (IsFirstGroup shape b) (numbers_where (has_offloadable b.offloadable shape.stride b.processors) 0 b.processors) gs

  -- The parts are those of a new board of this shape, none has made a step, and they keep so much of what runs.
  pub record IsOpenedWith (kept : Kept) (shape : PartsShape) (parts : Parts J R) : Type 0 where
    pub many : (parts_board parts).processors ≡ shape.processors
    pub mask : (parts_board parts).offloadable ≡ shape.offloadable
    pub processors : AreFirstProcessors shape kept (parts_board parts) (processors_in parts)
    pub hands : AreFirstHands shape kept (parts_board parts) (hands_in parts)
    pub groups : AreFirstGroups shape (parts_board parts) (groups_in parts)
    pub control : IsNewSeat (parts_board parts) Control 1 false true [] (control_seat parts.control)
    pub driver : IsNewSeat (parts_board parts) Driver (driver_view parts.driver).weight true false [] (driver_seat parts.driver)

  -- With every record kept.
  abbrev pub IsOpened : PartsShape → Parts J R → Type 0
  IsOpened shape parts = IsOpenedWith Whole shape parts

  -- ---- parts that aren't whole yet

  -- the other end of each offloadable processor's lane, in order
  abbrev pub AreFronts : List (Processor J R) → List (Front (Parcel J) LaneLimits) → Type 0
  AreFronts ps fronts = AllZip (λ p front. IsNewLane front (rear_of p.state.lists)) (offloadable_in ps) fronts

module _ {J : Type 0} where
  -- the ends that the group draws from, in the order of the members
  abbrev pub fronts_of : List (GroupMember J) → List (Front (Parcel J) LaneLimits)
  fronts_of members = map (λ m. front_of m.member) members

  -- The first of a list isn't in this group.
  abbrev pub BeginsOutside : ℕ → ℕ → List (GroupMember J) → Type 0
  BeginsOutside stride g [] = Unit {0}
  BeginsOutside stride g (m ∷ ms) = m.cpu / stride ≢ g

  -- The first is a member of this group, and is taken; or it isn't, or there is none.
  abbrev pub TakesMember : ℕ → ℕ → Option (GroupMember J) → List (GroupMember J) → List (GroupMember J) → Type 0
  TakesMember stride g (Some m) old new = (m.cpu / stride ≡ g) × (old ≡ m ∷ new)
  TakesMember stride g None old new = (new ≡ old) × BeginsOutside stride g old

  -- All that are of this group were taken off the front.
  pub record TakesMembers (stride g : ℕ) (taken old new : List (GroupMember J)) : Type 0 where
    pub order : old ≡ taken ++ new
    pub inside : All (λ m. m.cpu / stride ≡ g) taken
    pub outside : BeginsOutside stride g new
