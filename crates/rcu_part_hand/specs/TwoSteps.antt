-- A callback run in two steps, as one run of a turn: docs/specification/surface.md, "rcu_parts", `begin` and `finish`.
use Rattle.std.specs.Prelude.{ℕ}
use Rattle.rcu_part_hand.specs.Begins.{ClaimsFirst, FinishesHand, SameBegun}
use Rattle.rcu_part_hand.specs.declared.hand.HandState.{HandState}
use Rattle.rcu_part_hand.specs.declared.running_hand.RunningHandState.{RunningHandState}

module _ {J R : Type 0} where
  -- The first callback that is held was claimed at the board sight `seen`, as a begin does after its look; its job was handed
  -- out, and what it gave ended the claim.
  pub record RunsInTwoSteps (seen : ℕ) (p q : HandState J R) : Type 0 where
    pub between : RunningHandState J R
    pub job : J
    pub receipt : R
    pub same : SameBegun p between
    pub claims : ClaimsFirst seen p between job
    pub finishes : FinishesHand receipt between q
