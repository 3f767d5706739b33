-- One item of a list changes, and each stays the part that it was.
use Rattle.std.specs.Prelude.{ℕ, ◌≡◌, ◌<◌, List, All, length, get_or, set}
use Rattle.std.specs.List.{AllZip}
use Rattle.rcu_part_control.specs.Parts.{SameControl}
use Rattle.rcu_part_control.specs.declared.control.Control.{Control}
use Rattle.rcu_part_group.specs.Groups.{SameGroup}
use Rattle.rcu_part_group.specs.declared.group.Group.{Group}
use Rattle.rcu_part_hand.specs.Hands.{IsSoundHand, SameHand}
use Rattle.rcu_part_hand.specs.declared.hand.Hand.{Hand}
use Rattle.rcuo_replay.specs.Presences.{IsSoundPresence, SamePresence, ScriptProcessor}

-- The item x in place k becomes y, as R says of the two, and no other item changes.
pub record ChangesAt {X : Type 0} (k : ℕ) (R : X → X → Type 0) (xs ys : List X) : Type 0 where
  pub x : X
  pub y : X
  pub there : k < length xs
  pub old : x ≡ get_or xs k x
  pub new : ys ≡ set xs k y
  pub by : R x y

-- The item in place k is there, and P holds of it.
abbrev pub HoldsAt : {X : Type 0} → ℕ → (X → Type 0) → List X → Type 0
HoldsAt {X} k P xs = (k < length xs) × ((x : X) → x ≡ get_or xs k x → P x)

module _ {J R : Type 0} where
  -- each is the same part as that in the same place
  abbrev pub SamePresences : List (ScriptProcessor J R) → List (ScriptProcessor J R) → Type 0
  SamePresences olds news = AllZip SamePresence olds news

  abbrev pub SameGroups : List (Group J R) → List (Group J R) → Type 0
  SameGroups olds news = AllZip (λ g h. SameGroup g.state h.state) olds news

  abbrev pub SameHands : List (Hand J R) → List (Hand J R) → Type 0
  SameHands olds news = AllZip (λ h i. SameHand h.state i.state) olds news

  -- where all of them were sound, by what their jobs promise, all still are
  abbrev pub KeepSound : (J → ℕ) → (ℕ → R → Type 0) → List (ScriptProcessor J R) → List (ScriptProcessor J R) → Type 0
  KeepSound key_of gives olds news = All (IsSoundPresence key_of gives) olds → All (IsSoundPresence key_of gives) news

  abbrev pub KeepSoundHands : (J → ℕ) → (ℕ → R → Type 0) → List (Hand J R) → List (Hand J R) → Type 0
  KeepSoundHands key_of gives olds news =
      All (λ h. IsSoundHand key_of gives h.state) olds → All (λ h. IsSoundHand key_of gives h.state) news

  -- What a command does to the processors; and each stays the part that it was, and sound.
  pub record AmongProcessors (key_of : J → ℕ) (gives : ℕ → R → Type 0) (Does : List (ScriptProcessor J R) → List (ScriptProcessor J R) → Type 0) (olds news : List (ScriptProcessor J R)) : Type 0 where
    pub does : Does olds news
    pub same : SamePresences olds news
    pub sound : KeepSound key_of gives olds news

-- What a command does to control, which stays the part that it was.
pub record OnControl (Does : Control → Control → Type 0) (old new : Control) : Type 0 where
  pub does : Does old new
  pub same : SameControl old new
