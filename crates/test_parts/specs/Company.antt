-- All parts between two phases stay the same parts.
use Rattle.std.specs.Prelude.{ℕ}
use Rattle.rcu_parts.specs.declared.parts.AllParts.{AllParts}
use Rattle.rcu_part_group.specs.declared.group.Group.{Group}
use Rattle.rcu_part_hand.specs.declared.hand.Hand.{Hand}
use Rattle.rcu_part_processor.specs.declared.processor.Processor.{Processor}
use Rattle.test_parts.specs.Kept.{GroupsKeep, HandsKeep, ProcessorsKeep}
use Rattle.test_parts.specs.declared.phases.company.Company.{Company}
use Rattle.rcu_part_control.specs.Parts.{SameControl, SameDriver}

-- the parts of a company
abbrev pub parts_of : {P G H : Type 0} → Company P G H → AllParts P G H
parts_of c = record { processors = c.callers.processors; driver = c.center.driver; groups = c.groups; hands = c.hands; control = c.center.control }

module _ {J R : Type 0} (key_of : J → ℕ) (gives : ℕ → R → Type 0) where
  pub record CompanyKeeps (old new : Company (Processor J R) (Group J R) (Hand J R)) : Type 0 where
    pub processors : ProcessorsKeep key_of gives old.callers.processors.items new.callers.processors.items
    pub groups : GroupsKeep old.groups.items new.groups.items
    pub hands : HandsKeep key_of gives old.hands.items new.hands.items
    pub driver : SameDriver old.center.driver new.center.driver
    pub control : SameControl old.center.control new.center.control
