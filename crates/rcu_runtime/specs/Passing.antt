-- What a turn leaves of a part: it did what its own turn says, and is the same part, which knows of its jobs what it did.
use Rattle.std.specs.Prelude.{◌≡◌, ℕ}
use Rattle.rcu_part_group.specs.Groups.{SameGroup}
use Rattle.rcu_part_group.specs.declared.group.Group.{Group}
use Rattle.rcu_part_hand.specs.Hands.{IsSoundHand, SameHand}
use Rattle.rcu_part_hand.specs.declared.hand.Hand.{Hand}
use Rattle.rcu_part_processor.specs.Processors.{IsSound, SameProcessor}
use Rattle.rcu_part_processor.specs.declared.processor.Processor.{Processor}
use Rattle.rcu_runtime.specs.Turns.{GroupTurns, HandTurns, ReportsAndTicks}

module _ {J R : Type 0} where
  -- the same processor, which knows of jobs what it did
  pub record KeepsProcessor (key_of : J → ℕ) (gives : ℕ → R → Type 0) (p q : Processor J R) : Type 0 where
    pub same : SameProcessor p.state q.state
    pub sound : IsSound key_of gives p.state → IsSound key_of gives q.state

  pub record PassesTick (key_of : J → ℕ) (gives : ℕ → R → Type 0) (moment : ℕ) (p q : Processor J R) : Type 0 where
    pub keeps : KeepsProcessor key_of gives p q
    pub count : q.state.accepted ≡ p.state.accepted
    pub turns : ReportsAndTicks moment p q

  pub record PassesGroup (g h : Group J R) : Type 0 where
    pub same : SameGroup g.state h.state
    pub turns : GroupTurns g h

  pub record PassesHand (key_of : J → ℕ) (gives : ℕ → R → Type 0) (h i : Hand J R) : Type 0 where
    pub same : SameHand h.state i.state
    pub sound : IsSoundHand key_of gives h.state → IsSoundHand key_of gives i.state
    pub turns : HandTurns h i
