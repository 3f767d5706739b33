-- What a group's part keeps between its calls: docs/specification/rules.md, "Groups", and definitions.md, "The running
-- parts: views".
use Rattle.std.specs.Prelude.{ℕ, ◌≤◌, ◌<◌, List, ◌∷◌, map, length, All}
use Rattle.std.specs.List.{AllPairs}
use Rattle.rcu_board.specs.Views.{seen_at, sight}
use Rattle.rcu_board.specs.Words.{needed_word}
use Rattle.rcu_board.specs.declared.view.View.{View}
use Rattle.rcu_board.specs.Frames.{IsBare}
use Rattle.rcu_part_lists.specs.Aims.{AreUpTo}
use Rattle.rcu_part_lists.specs.MemberLists.{Relay, relay}
use Rattle.rcu_numbers.specs.declared.set.TheConstants.{PARTS_PROCESSORS}
use Rattle.rcu_part_group.specs.declared.members.GroupMember.{GroupMember}
use Rattle.rcu_part_group.specs.declared.members.GroupMembers.{GroupMembers}

module _ {J : Type 0} where
  -- what a group holds of one member
  abbrev pub relay_of : GroupMember J → Relay J
  relay_of m = relay m.member

  -- all members, in order
  abbrev pub group_members_in : GroupMembers J → List (GroupMember J)
  group_members_in ms = ms.first ∷ ms.others.items

  -- the processors of the members
  abbrev pub cpus_of : List (GroupMember J) → List ℕ
  cpus_of members = map (λ m. m.cpu) members

  -- no list was advanced by a number above s
  abbrev pub AreAdvancedTo : ℕ → List (GroupMember J) → Type 0
  AreAdvancedTo s members = All (λ m. (relay_of m).advanced ≤ s) members

  -- no number that is waited for in a list is above s
  abbrev pub AreWaitingTo : ℕ → List (GroupMember J) → Type 0
  AreWaitingTo s members = All (λ m. AreUpTo s (relay_of m).list) members

  -- no batch that waits for its done lane is longer than this
  abbrev pub AreLoadedUpTo : ℕ → List (GroupMember J) → Type 0
  AreLoadedUpTo blimit members = All (λ m. length (relay_of m).out ≤ blimit) members

  -- The members of a group: in rising order of processors, no more than there can be.
  pub record AreMembers (members : List (GroupMember J)) : Type 0 where
    pub few : length members ≤ PARTS_PROCESSORS
    pub rising : AllPairs (λ p q. p < q) (cpus_of members)

  -- The view of a group, its limit, and its members.
  pub record IsLawfulGroup (v : View) (blimit : ℕ) (members : List (GroupMember J)) : Type 0 where
    -- it accepts nothing and claims nothing
    pub bare : IsBare v
    pub members_are : AreMembers members
    -- each list was advanced by what a look showed, and each number that is waited for was asked for
    pub looked : AreAdvancedTo (sight v) members
    pub needed : AreWaitingTo (seen_at v needed_word) members
    -- each batch that waits for a done lane was loaded under the limit
    pub loaded : AreLoadedUpTo blimit members
