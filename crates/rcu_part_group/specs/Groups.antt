-- What contracts see of a group's part, and what its turn does: docs/specification/rules.md, "The calls, step by step",
-- `Group::turn`.
use Rattle.std.specs.Prelude.{◌≡◌, ◌≢◌, ℕ, ◌+◌, ◌≤◌, max, List, [], ◌++◌, length, sum_by, All, Option, Some, None}
use Rattle.std.specs.List.{AllZip, Any}
use Rattle.std.specs.Arc.{arc_value}
use Rattle.rcu_board.specs.Plays.{looked, touched}
use Rattle.rcu_board.specs.Seats.{view}
use Rattle.rcu_board.specs.Words.{needed_word}
use Rattle.rcu_board.specs.declared.board.Board.{Board as Table}
use Rattle.rcu_board.specs.declared.board.Seat.{Seat}
use Rattle.rcu_board.specs.declared.view.View.{View}
use Rattle.rcu_board.specs.Frames.{SamePart}
use Rattle.rcu_part_lists.specs.Aims.{wanted}
use Rattle.rcu_part_lists.specs.MemberLists.{most_batches, front_of, rear_of, TakesIn, after_look, Gives, GivesSome, folk_lists, nothing_relayed}
use Rattle.rcu_jobs.specs.declared.callback.Callback.{Callback}
use Rattle.rcu_jobs.specs.declared.turns.GroupTurn.{GroupTurn}
use Rattle.rcu_jobs.specs.declared.turns.Lists.{Lists}
use Rattle.rcu_lanes.specs.Ends.{SameFront, SameRear}
use Rattle.rcu_lists.specs.Labels.{callbacks_of}
use Rattle.rcu_numbers.specs.declared.parts_shape.PartsShape.{PartsShape}
use Rattle.rcu_part_group.specs.Each.{Each, Sums, IsGreatest}
use Rattle.rcu_part_group.specs.GroupLaw.{group_members_in, relay_of}
use Rattle.rcu_part_group.specs.declared.members.GroupMember.{GroupMember}
use Rattle.rcu_part_group.specs.declared.group.GroupState.{GroupState}

-- ---- one member

module _ {J : Type 0} where
  -- the same member: its processor and the ends of its two lanes
  pub record SameGroupMember (m n : GroupMember J) : Type 0 where
    pub cpu : n.cpu ≡ m.cpu
    pub front : SameFront (front_of m.member) (front_of n.member)
    pub rear : SameRear (rear_of m.member) (rear_of n.member)

  -- so many callbacks were drawn from its lane, and joined its list
  pub record TakesFrom (took : ℕ) (m n : GroupMember J) : Type 0 where
    pub same : SameGroupMember m n
    pub takes : TakesIn most_batches took (relay_of m) (relay_of n)

  -- its list was advanced by the number seen, and accelerated, and wants this number if any
  pub record LooksAt (seen : ℕ) (wants : Option ℕ) (m n : GroupMember J) : Type 0 where
    pub same : SameGroupMember m n
    pub list : relay_of n ≡ after_look seen (relay_of m)
    pub wants_is : wants ≡ wanted seen (relay_of m).list

  -- the same for each member, and the greatest number wanted
  pub record LooksAtAll (seen : ℕ) (most : Option ℕ) (olds news : List (GroupMember J)) : Type 0 where
    pub wants : List (Option ℕ)
    pub members : Each (LooksAt seen) wants olds news
    pub greatest : IsGreatest most wants

  -- so many of its done callbacks, at most `blimit`, were put on its done lane; some where up to sixteen are to be put, no
  -- batch waits, and the lane has room for its first batches
  pub record GivesTo (blimit gave : ℕ) (m n : GroupMember J) : Type 0 where
    pub same : SameGroupMember m n
    pub gives : Gives blimit gave (relay_of m) (relay_of n)
    pub few : gave ≤ blimit
    pub some : GivesSome blimit gave (relay_of m)

  -- how many of its callbacks wait in batches, drawn or to be put
  abbrev pub waiting_of : GroupMember J → ℕ
  waiting_of m = length (relay_of m).drawn + length (relay_of m).out

  -- what it holds, in order: what is to be put, the list, and what was drawn
  abbrev pub held_of : GroupMember J → List (Callback J)
  held_of m = (relay_of m).out ++ (callbacks_of (relay_of m).list ++ (relay_of m).drawn)

  -- The law of places: what it held, and then what was drawn, is what was put and then what it holds, jobs included.
  pub record PassesOn (m n : GroupMember J) : Type 0 where
    pub got : List (Callback J)
    pub given : List (Callback J)
    pub received : (relay_of n).received ≡ (relay_of m).received ++ got
    pub put : (relay_of n).put ≡ (relay_of m).put ++ given
    pub order : held_of m ++ got ≡ given ++ held_of n

  -- What is shown for a processor: the list of the member that it is; None where it is none.
  abbrev pub ShownFor : ℕ → Option Lists → List (GroupMember J) → Type 0
  ShownFor p None members = All (λ m. m.cpu ≢ p) members
  ShownFor p (Some shown) members = Any (λ m. (m.cpu ≡ p) × (shown ≡ folk_lists (relay_of m))) members

  -- nothing was drawn, put or held
  abbrev pub IsEmptyGroupMember : GroupMember J → Type 0
  IsEmptyGroupMember m = relay_of m ≡ nothing_relayed

-- ---- a group

-- The greatest of the numbers that are wanted is asked for by one step, and nothing where none is.
abbrev pub AsksFor : Option ℕ → View → View → Type 0
AsksFor None v w = w ≡ v
AsksFor (Some n) v w = (before : ℕ) × (w ≡ touched needed_word (max before n) v)

module _ {J : Type 0} where
  abbrev pub group_board : GroupState J → Table
  group_board g = arc_value g.board

  abbrev pub group_view : GroupState J → View
  group_view g = view g.seat

  abbrev pub members_of : GroupState J → List (GroupMember J)
  members_of g = group_members_in g.members

  -- the same part of the same open: its seat, its number, its limit, and its members
  pub record SameGroup (p q : GroupState J) : Type 0 where
    pub part : SamePart (group_board p) (group_board q) p.seat q.seat
    pub group : q.group ≡ p.group
    pub blimit : q.blimit ≡ p.blimit
    pub members : AllZip SameGroupMember (members_of p) (members_of q)

  -- batches of each member were drawn, so many callbacks in all
  pub record TakesInAll (took : ℕ) (p q : GroupState J) : Type 0 where
    pub members : Sums TakesFrom took (members_of p) (members_of q)
    pub view_is : group_view q ≡ group_view p

  -- One look; each member's list was looked at by the number found; then one ask at most.
  pub record LooksOnce (p q : GroupState J) : Type 0 where
    pub seen : ℕ
    pub most : Option ℕ
    pub members : LooksAtAll seen most (members_of p) (members_of q)
    pub steps : AsksFor most (looked seen (group_view p)) (group_view q)

  -- a batch of each member was put on its done lane, so many callbacks in all
  pub record GivesToAll (gave : ℕ) (p q : GroupState J) : Type 0 where
    pub members : Sums (GivesTo p.blimit) gave (members_of p) (members_of q)
    pub view_is : group_view q ≡ group_view p

  -- A turn: the draws, the look, and what was given; and how many callbacks wait in batches then.
  pub record TurnsGroup (answer : GroupTurn) (p q : GroupState J) : Type 0 where
    pub first : GroupState J
    pub second : GroupState J
    -- all the while it is the same group, with its own limit
    pub same : SameGroup p first × SameGroup p second
    pub takes : TakesInAll answer.took p first
    pub looks : LooksOnce first second
    pub gives : GivesToAll answer.gave second q
    pub held : answer.held ≡ sum_by waiting_of (members_of q)

  -- group of a board, with its seat and its members
  pub record IsNewGroupOf (shape : PartsShape) (b : Table) (group : ℕ) (s : Seat) (members : List (GroupMember J)) (g : GroupState J) : Type 0 where
    pub board : group_board g ≡ b
    pub seat : g.seat ≡ s
    pub group_is : g.group ≡ group
    pub limit : g.blimit ≡ shape.blimit
    pub members_are : members_of g ≡ members
