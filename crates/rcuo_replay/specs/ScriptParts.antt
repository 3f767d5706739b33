-- The parts of a script, of whose processors some may be away.
use Rattle.std.specs.Prelude.{ℕ, ◌≡◌, All}
use Rattle.std.specs.List.{AllZip}
use Rattle.rcu_board.specs.declared.board.Board.{Board}
use Rattle.rcu_part_control.specs.Parts.{control_board, SameControl, SameDriver}
use Rattle.rcu_part_group.specs.Groups.{SameGroup}
use Rattle.rcu_part_group.specs.declared.group.Group.{Group}
use Rattle.rcu_part_hand.specs.Hands.{IsSoundHand, SameHand}
use Rattle.rcu_part_hand.specs.declared.hand.Hand.{Hand}
use Rattle.rcu_parts.specs.OneOpen.{Parts}
use Rattle.rcu_parts.specs.declared.parts.AllParts.{AllParts}
use Rattle.rcuo_replay.specs.Presences.{IsBack, IsHere, IsSoundPresence, SamePresence, ScriptProcessor}

-- all parts, of whose processors some may be away
abbrev pub ScriptParts : Type 0 → Type 0 → Type 0
ScriptParts J R = AllParts (ScriptProcessor J R) (Group J R) (Hand J R)

module _ {J R : Type 0} where
  abbrev pub script_board : ScriptParts J R → Board
  script_board parts = control_board parts.control

  -- Each is the same part as that in the same place.
  pub record SameScriptParts (old new : ScriptParts J R) : Type 0 where
    pub control : SameControl old.control new.control
    pub driver : SameDriver old.driver new.driver
    pub processors : AllZip SamePresence old.processors.items new.processors.items
    pub groups : AllZip (λ g h. SameGroup g.state h.state) old.groups.items new.groups.items
    pub hands : AllZip (λ h i. SameHand h.state i.state) old.hands.items new.hands.items

  -- What they know of jobs: each processor, here or away, and each hand.
  pub record AreSoundScriptParts (key_of : J → ℕ) (gives : ℕ → R → Type 0) (parts : ScriptParts J R) : Type 0 where
    pub processors : All (IsSoundPresence key_of gives) parts.processors.items
    pub hands : All (λ h. IsSoundHand key_of gives h.state) parts.hands.items

  -- The parts stay those of one open, and sound.
  pub record KeepsParts (key_of : J → ℕ) (gives : ℕ → R → Type 0) (old new : ScriptParts J R) : Type 0 where
    pub same : SameScriptParts old new
    pub sound : AreSoundScriptParts key_of gives old → AreSoundScriptParts key_of gives new

  -- all but the processors are these
  pub record OthersStay {P Q : Type 0} (old : AllParts P (Group J R) (Hand J R)) (new : AllParts Q (Group J R) (Hand J R)) : Type 0 where
    pub driver : new.driver ≡ old.driver
    pub groups : new.groups ≡ old.groups
    pub hands : new.hands ≡ old.hands
    pub control : new.control ≡ old.control

  -- Each processor is here, in its place.
  pub record AreAllHere (parts : Parts J R) (here : ScriptParts J R) : Type 0 where
    pub processors : AllZip IsHere parts.processors.items here.processors.items
    pub others : OthersStay parts here

  -- Each processor that is away comes back, in its place.
  pub record AllComeBack (parts : ScriptParts J R) (back : Parts J R) : Type 0 where
    pub processors : AllZip IsBack parts.processors.items back.processors.items
    pub others : OthersStay parts back
