-- What a thread gives back of the part that it ran: the same part of its open.
use Rattle.std.specs.Prelude.{ℕ}
use Rattle.rcu_part_group.specs.Groups.{SameGroup}
use Rattle.rcu_part_group.specs.declared.group.Group.{Group}
use Rattle.rcu_part_hand.specs.Hands.{IsSoundHand, SameHand}
use Rattle.rcu_part_hand.specs.declared.hand.Hand.{Hand}

module _ {J R : Type 0} where
  abbrev pub GroupStays : Group J R → Group J R → Type 0
  GroupStays g h = SameGroup g.state h.state

  -- it knows of its jobs what it should if it did before
  pub record HandStays (key_of : J → ℕ) (gives : ℕ → R → Type 0) (h i : Hand J R) : Type 0 where
    pub same : SameHand h.state i.state
    pub sound : IsSoundHand key_of gives h.state → IsSoundHand key_of gives i.state
