-- Parts that are left alone are the same parts, and so are parts of two steps that each leave them the same.
use Rattle.std.proofs.Common.{◌≡◌, ℕ, List, subst, sym}
use Rattle.rcu_board.proofs.Stepping.{same_again, same_part}
use Rattle.rcu_part_control.specs.declared.control.Control.{Control}
use Rattle.rcu_part_control.specs.declared.driver.Driver.{Driver}
use Rattle.rcu_part_control.specs.Parts.{SameControl, SameDriver}
use Rattle.rcu_part_group.proofs.GroupTurns.{same_group, same_group_again}
use Rattle.rcu_part_hand.proofs.HandRuns.{same_hand, same_hand_again}
use Rattle.rcu_part_processor.proofs.TickRuns.{same_processor, same_processor_again}
use Rattle.rcu_part_group.specs.Groups.{SameGroup}
use Rattle.rcu_part_hand.specs.Hands.{SameHand}
use Rattle.rcu_parts.specs.OneOpen.{AreSoundParts, Parts}
use Rattle.rcu_part_processor.specs.Processors.{SameProcessor}
use Rattle.rcu_parts.specs.SameParts.{AreSameParts}
use Rattle.rcu_part_group.specs.declared.group.Group.{Group}
use Rattle.rcu_part_hand.specs.declared.hand.Hand.{Hand}
use Rattle.rcu_part_processor.specs.declared.processor.Processor.{Processor}
use Rattle.test_parts.specs.Company.{CompanyKeeps, parts_of}
use Rattle.test_parts.specs.Kept.{GroupsKeep, HandsKeep, ProcessorsKeep}
use Rattle.test_parts.specs.declared.phases.company.Company.{Company}
use Rattle.rcu_lemmas.proofs.Zips.{zip_again, zip_same}

pub driver_none : (d : Driver) → SameDriver d d
driver_none d = same_part _ _

pub driver_again : (d e f : Driver) → SameDriver d e → SameDriver e f → SameDriver d f
driver_again d e f x y = same_again _ _ _ _ _ _ x y

pub control_none : (c : Control) → SameControl c c
control_none c = same_part _ _

pub control_again : (c d e : Control) → SameControl c d → SameControl d e → SameControl c e
control_again c d e x y = same_again _ _ _ _ _ _ x y

module _ {J R : Type 0} where
  pub groups_none : (gs : List (Group J R)) → GroupsKeep gs gs
  groups_none gs = zip_same (λ g h. SameGroup g.state h.state) (λ g. same_group g.state) gs

  pub groups_again : (gs hs is : List (Group J R)) → GroupsKeep gs hs → GroupsKeep hs is → GroupsKeep gs is
  groups_again gs hs is x y = zip_again (λ g h. SameGroup g.state h.state) (λ g h i. same_group_again g.state h.state i.state) gs hs is x y

  module _ (key_of : J → ℕ) (gives : ℕ → R → Type 0) where
    pub processors_none : (ps : List (Processor J R)) → ProcessorsKeep key_of gives ps ps
    processors_none ps = record { same = zip_same (λ p q. SameProcessor p.state q.state) (λ p. same_processor p.state) ps; sound = λ sound. sound }

    pub processors_again : (ps qs rs : List (Processor J R)) → ProcessorsKeep key_of gives ps qs → ProcessorsKeep key_of gives qs rs → ProcessorsKeep key_of gives ps rs
    processors_again ps qs rs x y = record {
      same = zip_again (λ p q. SameProcessor p.state q.state) (λ p q r. same_processor_again p.state q.state r.state) ps qs rs x.same y.same;
      sound = λ sound. y.sound (x.sound sound);
    }

    pub hands_none : (hs : List (Hand J R)) → HandsKeep key_of gives hs hs
    hands_none hs = record { same = zip_same (λ h i. SameHand h.state i.state) (λ h. same_hand h.state) hs; sound = λ sound. sound }

    pub hands_again : (hs is js : List (Hand J R)) → HandsKeep key_of gives hs is → HandsKeep key_of gives is js → HandsKeep key_of gives hs js
    hands_again hs is js x y = record {
      same = zip_again (λ h i. SameHand h.state i.state) (λ h i j. same_hand_again h.state i.state j.state) hs is js x.same y.same;
      sound = λ sound. y.sound (x.sound sound);
    }

    pub company_none : (c : Company (Processor J R) (Group J R) (Hand J R)) → CompanyKeeps key_of gives c c
    company_none c = record {
      processors = processors_none c.callers.processors.items;
      groups = groups_none c.groups.items;
      hands = hands_none c.hands.items;
      driver = driver_none c.center.driver;
      control = control_none c.center.control;
    }

    pub company_again : (c d e : Company (Processor J R) (Group J R) (Hand J R)) → CompanyKeeps key_of gives c d → CompanyKeeps key_of gives d e → CompanyKeeps key_of gives c e
    company_again c d e x y = record {
      processors = processors_again c.callers.processors.items d.callers.processors.items e.callers.processors.items x.processors y.processors;
      groups = groups_again c.groups.items d.groups.items e.groups.items x.groups y.groups;
      hands = hands_again c.hands.items d.hands.items e.hands.items x.hands y.hands;
      driver = driver_again c.center.driver d.center.driver e.center.driver x.driver y.driver;
      control = control_again c.center.control d.center.control e.center.control x.control y.control;
    }

    -- the parts of a company that keeps are the same parts
    pub stay_same_parts : (p q : Parts J R) (c d : Company (Processor J R) (Group J R) (Hand J R)) → parts_of c ≡ p → q ≡ parts_of d → CompanyKeeps key_of gives c d → AreSameParts p q
    stay_same_parts p q c d from to k =
        let same : AreSameParts (parts_of c) (parts_of d) = record { control = k.control; driver = k.driver; processors = k.processors.same; groups = k.groups; hands = k.hands.same } in
        subst (λ x. AreSameParts x q) from (subst (AreSameParts (parts_of c)) (sym to) same)

    -- and know of their jobs what they should
    pub stay_sound_parts : (p q : Parts J R) (c d : Company (Processor J R) (Group J R) (Hand J R)) → parts_of c ≡ p → q ≡ parts_of d → CompanyKeeps key_of gives c d → AreSoundParts key_of gives p → AreSoundParts key_of gives q
    stay_sound_parts p q c d from to k sound =
        let s = subst (AreSoundParts key_of gives) (sym from) sound in
        subst (AreSoundParts key_of gives) (sym to) (record { processors = k.processors.sound s.processors; hands = k.hands.sound s.hands })
