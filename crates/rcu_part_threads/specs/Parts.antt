-- What a thread gives back of the part that it ran: docs/specification/promises.md, "Headline on the running parts", Same part.
use Rattle.std.specs.Prelude.{◌≡◌, ℕ, Option, Some, None}
use Rattle.rcu_board.specs.Seats.{SawHalt}
use Rattle.rcu_part_control.specs.Parts.{SameDriver, driver_view}
use Rattle.rcu_part_control.specs.declared.driver.Driver.{Driver}
use Rattle.rcu_part_group.specs.Groups.{SameGroup, group_view}
use Rattle.rcu_part_hand.specs.Hands.{IsSoundHand, SameHand, hand_view}
use Rattle.rcu_part_processor.specs.Processors.{AcceptedStays, IsSound, SameProcessor, view_of}
use Rattle.rcu_part_group.specs.declared.group.Group.{Group}
use Rattle.rcu_part_hand.specs.declared.hand.Hand.{Hand}
use Rattle.rcu_part_processor.specs.declared.processor.Processor.{Processor}

-- the same driver of its open, which ran until it saw the halt word set
pub record DriverStays (d e : Driver) : Type 0 where
  pub same : SameDriver d e
  pub halted : SawHalt (driver_view e)

-- there is a thread, and what comes back is the driver that it was given
abbrev pub GivesBack : {H : Type 0} → (H → Driver) → Option H → Driver → Type 0
GivesBack of None e = ⊥
GivesBack of (Some h) e = DriverStays (of h) e

module _ {J R : Type 0} where
  -- the same group of its open, which ran until it saw the halt word set
  pub record GroupStays (g h : Group J R) : Type 0 where
    pub same : SameGroup g.state h.state
    pub halted : SawHalt (group_view h.state)

  -- The same hand of its open, which ran until it saw the halt word set, and knows of its jobs what it should if it did before.
  pub record HandStays (key_of : J → ℕ) (gives : ℕ → R → Type 0) (h i : Hand J R) : Type 0 where
    pub same : SameHand h.state i.state
    pub halted : SawHalt (hand_view i.state)
    pub sound : IsSoundHand key_of gives h.state → IsSoundHand key_of gives i.state

  -- The same processor of its open, which ran until it saw the halt word set, accepted nothing meanwhile, and knows of its jobs
  -- what it should if it did before.
  pub record ProcessorStays (key_of : J → ℕ) (gives : ℕ → R → Type 0) (p q : Processor J R) : Type 0 where
    pub same : SameProcessor p.state q.state
    pub halted : SawHalt (view_of q.state)
    pub count : q.state.accepted ≡ p.state.accepted
    pub accepted : AcceptedStays p.state q.state
    pub sound : IsSound key_of gives p.state → IsSound key_of gives q.state
