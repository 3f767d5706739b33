-- Parts stay the same parts of their open, whatever the phases were: docs/specification/promises.md, "Headline on the
-- running parts", Same part and close.
use Rattle.std.specs.Prelude.{◌≡◌, ℕ, List, All, Option, IfSome}
use Rattle.std.specs.List.{AllZip}
use Rattle.rcu_part_control.specs.Parts.{control_board}
use Rattle.rcu_part_control.specs.declared.barrier.Barrier.{Barrier}
use Rattle.rcu_part_control.specs.declared.control.Control.{Control}
use Rattle.rcu_jobs.specs.declared.answers.Closed.{Closed}
use Rattle.rcu_parts.specs.AtClose.{ClosesWith}
use Rattle.rcu_part_group.specs.Groups.{SameGroup}
use Rattle.rcu_part_hand.specs.Hands.{IsSoundHand, SameHand}
use Rattle.rcu_parts.specs.OneOpen.{Parts}
use Rattle.rcu_part_processor.specs.Processors.{IsSound, SameProcessor}
use Rattle.rcu_parts.specs.SameParts.{AreSameParts}
use Rattle.rcu_part_group.specs.declared.group.Group.{Group}
use Rattle.rcu_part_hand.specs.declared.hand.Hand.{Hand}
use Rattle.rcu_part_processor.specs.declared.processor.Processor.{Processor}

-- A barrier that is open counts the processors of control's board.
abbrev pub IsOurs : Control → Option Barrier → Type 0
IsOurs control barrier = IfSome barrier (λ b. (control_board control).processors ≡ b.counts.n)

module _ {J R : Type 0} where
  -- the same groups of their open
  abbrev pub GroupsKeep : List (Group J R) → List (Group J R) → Type 0
  GroupsKeep gs hs = AllZip (λ g h. SameGroup g.state h.state) gs hs

  module _ (key_of : J → ℕ) (gives : ℕ → R → Type 0) where
    -- the same processors of their open, which know of their jobs what they should if they did before
    pub record ProcessorsKeep (ps qs : List (Processor J R)) : Type 0 where
      pub same : AllZip (λ p q. SameProcessor p.state q.state) ps qs
      pub sound : All (λ p. IsSound key_of gives p.state) ps → All (λ q. IsSound key_of gives q.state) qs

    -- the same hands of their open, which know of their jobs what they should if they did before
    pub record HandsKeep (hs is : List (Hand J R)) : Type 0 where
      pub same : AllZip (λ h i. SameHand h.state i.state) hs is
      pub sound : All (λ h. IsSoundHand key_of gives h.state) hs → All (λ i. IsSoundHand key_of gives i.state) is

    -- What was closed are the same parts, however far they came, and the answer is what `close` promises of them.
    pub record ClosesSame (parts : Parts J R) (closed : Closed J R) : Type 0 where
      pub ended : Parts J R
      pub same : AreSameParts parts ended
      pub closes : ClosesWith key_of gives ended closed
