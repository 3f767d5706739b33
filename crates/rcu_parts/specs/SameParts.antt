-- Each part stays the same part of its open: docs/specification/promises.md, "Headline on the running parts", Same part.
use Rattle.std.specs.List.{AllZip}
use Rattle.rcu_part_control.specs.Parts.{SameControl, SameDriver}
use Rattle.rcu_part_group.specs.Groups.{SameGroup}
use Rattle.rcu_part_hand.specs.Hands.{SameHand}
use Rattle.rcu_parts.specs.OneOpen.{Parts, groups_in, hands_in, processors_in}
use Rattle.rcu_part_processor.specs.Processors.{SameProcessor}

-- Each of these parts is the same part as that in the same place.
pub record AreSameParts {J R : Type 0} (old new : Parts J R) : Type 0 where
  pub control : SameControl old.control new.control
  pub driver : SameDriver old.driver new.driver
  pub processors : AllZip (λ p q. SameProcessor p.state q.state) (processors_in old) (processors_in new)
  pub groups : AllZip (λ g h. SameGroup g.state h.state) (groups_in old) (groups_in new)
  pub hands : AllZip (λ h i. SameHand h.state i.state) (hands_in old) (hands_in new)
