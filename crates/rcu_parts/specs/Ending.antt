-- How the parts of one open end one after another: docs/specification/promises.md, "Headline on the running parts", close.
use Rattle.std.specs.Prelude.{◌≡◌, ℕ, ◌+◌, ◌<◌, ◌≤◌, List, [], ◌∷◌, ◌++◌, map, length, vec_len, vec_capacity, All}
use Rattle.std.specs.List.{AllZip}
use Rattle.std.specs.Arc.{arc_value}
use Rattle.rcu_board.specs.Seats.{GatheredAt, SameGathered, gathered_view}
use Rattle.rcu_board.specs.Words.{words_of}
use Rattle.rcu_board.specs.declared.board.Board.{Board}
use Rattle.rcu_board.specs.declared.view.View.{View}
use Rattle.rcu_part_close.specs.declared.ended.ProcessorEnd.{ProcessorEnd}
use Rattle.rcu_part_close.specs.Closing.{CpuEnd, InRow, WasEnded, seats_of}
use Rattle.rcu_part_close.specs.Gathered.{gather}
use Rattle.rcu_part_close.specs.Parts.{CpuPart, IsAtRest, views_of}
use Rattle.rcu_jobs.specs.declared.callback.Record.{Record}
use Rattle.rcu_parts.specs.AtClose.{cpu_parts}
use Rattle.rcu_part_hand.specs.Hands.{hand_board}
use Rattle.rcu_parts.specs.OneOpen.{AreProcessorsFrom, HasHand, HasMember, offloadable_in}
use Rattle.rcu_parts.specs.Rooms.{FitsCpu}
use Rattle.rcu_parts.specs.declared.ends.Ending.{Ending}
use Rattle.rcu_part_group.specs.declared.members.GroupMember.{GroupMember}
use Rattle.rcu_part_hand.specs.declared.hand.Hand.{Hand}
use Rattle.rcu_part_processor.specs.declared.processor.Processor.{Processor}

-- the views are of seats of a board for n processors
abbrev pub AreLong : ℕ → List View → Type 0
AreLong n views = All (λ w. length w.seen ≡ words_of n) views

module _ {J R : Type 0} where
  abbrev pub board_at : Ending J R → Board
  board_at x = arc_value x.board

  abbrev pub all_view : Ending J R → View
  all_view x = gathered_view x.all

  abbrev pub all_ran : Ending J R → List (List (Record R))
  all_ran x = map (λ v. v.items) x.ran.items

  abbrev pub all_back : Ending J R → List (List J)
  all_back x = map (λ v. v.items) x.back.items

  -- These processors, k, k + 1, .., are left, and these members, hands and rooms are theirs.
  pub record IsReady (k : ℕ) (rest : List (Processor J R)) (members : List (GroupMember J)) (hands : List (Hand J R)) (rooms : List (ProcessorEnd J R)) (x : Ending J R) : Type 0 where
    pub at : GatheredAt (board_at x) x.all
    pub rests : (all_view x).running ≡ []
    pub processors : AreProcessorsFrom k (board_at x) rest
    pub hands_at : All (λ h. hand_board h.state ≡ board_at x) hands
    pub members_are : AllZip HasMember (offloadable_in rest) members
    pub running : AllZip HasHand members hands
    pub rooms_are : AllZip FitsCpu (cpu_parts rest hands) rooms
    pub for_ran : vec_len x.ran + length rest ≤ vec_capacity x.ran
    pub for_back : vec_len x.back + length rest ≤ vec_capacity x.back

  -- This processor ended, and its hand with it.
  pub record EndsOne (key_of : J → ℕ) (gives : ℕ → R → Type 0) (c : CpuPart J R) (x y : Ending J R) : Type 0 where
    pub end : CpuEnd J R
    pub part : end.part ≡ c
    pub at_rest : IsAtRest end.part
    pub ended : WasEnded key_of gives end
    pub view : all_view y ≡ gather (all_view x) (views_of end.part)
    pub long : AreLong (board_at x).processors (views_of end.part)
    pub ran : all_ran y ≡ all_ran x ++ end.kept ∷ []
    pub back : all_back y ≡ all_back x ++ end.back ∷ []

  -- One more has ended, in its room, and nothing runs.
  pub record GoesOn (x y : Ending J R) : Type 0 where
    pub board : board_at y ≡ board_at x
    pub same : SameGathered x.all y.all
    pub rests : (all_view y).running ≡ []
    pub ran : (vec_len y.ran ≡ vec_len x.ran + 1) × (vec_capacity y.ran ≡ vec_capacity x.ran)
    pub back : (vec_len y.back ≡ vec_len x.back + 1) × (vec_capacity y.back ≡ vec_capacity x.back)

  -- there is room for one more, and nothing runs
  pub record MayEnd (x : Ending J R) : Type 0 where
    pub at : GatheredAt (board_at x) x.all
    pub rests : (all_view x).running ≡ []
    pub ran : vec_len x.ran < vec_capacity x.ran
    pub back : vec_len x.back < vec_capacity x.back

  -- These processors ended, and their hands with them.
  pub record EndsEach (key_of : J → ℕ) (gives : ℕ → R → Type 0) (ps : List (Processor J R)) (hs : List (Hand J R)) (x y : Ending J R) : Type 0 where
    pub ends : List (CpuEnd J R)
    pub parts : map (λ e. e.part) ends ≡ cpu_parts ps hs
    pub row : InRow 0 ends
    pub at_rest : All (λ e. IsAtRest e.part) ends
    pub ended : All (WasEnded key_of gives) ends
    pub view : all_view y ≡ gather (all_view x) (seats_of ends)
    pub long : AreLong (board_at x).processors (seats_of ends)
    pub ran : all_ran y ≡ all_ran x ++ map (λ e. e.kept) ends
    pub back : all_back y ≡ all_back x ++ map (λ e. e.back) ends
