-- The parts stay those of one open, and sound, where those of one kind do and no other changes.
use Rattle.std.proofs.Common.{ℕ, All}
use Rattle.std.specs.Global.{Vec}
use Rattle.std.specs.List.{AllZip}
use Rattle.rcu_part_control.specs.Parts.{control_board, control_seat, driver_board, driver_seat}
use Rattle.rcu_part_group.specs.Groups.{SameGroup}
use Rattle.rcu_part_hand.specs.Hands.{IsSoundHand, SameHand}
use Rattle.rcu_parts.specs.OneOpen.{Parts, groups_in, hands_in, processors_in}
use Rattle.rcu_part_processor.specs.Processors.{IsSound, SameProcessor}
use Rattle.rcu_parts.specs.SameParts.{AreSameParts}
use Rattle.rcu_parts.proofs.StaySame.{stay_same}
use Rattle.rcu_part_group.specs.declared.group.Group.{Group}
use Rattle.rcu_part_hand.specs.declared.hand.Hand.{Hand}
use Rattle.rcu_part_processor.specs.declared.processor.Processor.{Processor}
use Rattle.rcu_part_group.proofs.GroupTurns.{same_group}
use Rattle.rcu_part_hand.proofs.HandRuns.{same_hand}
use Rattle.rcu_part_processor.proofs.TickRuns.{same_processor}
use Rattle.check_memory.specs.Driven.{AreDriven}
use Rattle.check_memory.specs.Works.{IsOwnKey, key_of_work}
use Rattle.check_memory.specs.declared.work.Work.{Work}
use Rattle.rcu_board.proofs.Stepping.{same_part}
use Rattle.rcu_lemmas.proofs.Zips.{zip_same}

module _ (old : Parts Work ℕ) (driven : AreDriven old) where
  all_same : AreSameParts old old
  all_same = record {
    control = same_part (control_board old.control) (control_seat old.control);
    driver = same_part (driver_board old.driver) (driver_seat old.driver);
    processors = zip_same (λ p q. SameProcessor p.state q.state) (λ p. same_processor p.state) (processors_in old);
    groups = zip_same (λ g h. SameGroup g.state h.state) (λ g. same_group g.state) (groups_in old);
    hands = zip_same (λ h i. SameHand h.state i.state) (λ h. same_hand h.state) (hands_in old);
  }

  pub processors_driven : (ps : Vec (Processor Work ℕ)) → AllZip (λ p q. SameProcessor p.state q.state) (processors_in old) ps.items
      → (All (λ p. IsSound key_of_work IsOwnKey p.state) (processors_in old) → All (λ p. IsSound key_of_work IsOwnKey p.state) ps.items)
      → AreDriven (record old { processors = ps })
  processors_driven ps z f = record {
    one = stay_same old (record old { processors = ps }) (record { control = all_same.control; driver = all_same.driver; processors = z; groups = all_same.groups; hands = all_same.hands }) driven.one;
    sound = record { processors = f driven.sound.processors; hands = driven.sound.hands };
  }

  pub groups_driven : (gs : Vec (Group Work ℕ)) → AllZip (λ g h. SameGroup g.state h.state) (groups_in old) gs.items → AreDriven (record old { groups = gs })
  groups_driven gs z = record {
    one = stay_same old (record old { groups = gs }) (record { control = all_same.control; driver = all_same.driver; processors = all_same.processors; groups = z; hands = all_same.hands }) driven.one;
    sound = record { processors = driven.sound.processors; hands = driven.sound.hands };
  }

  pub hands_driven : (hs : Vec (Hand Work ℕ)) → AllZip (λ h i. SameHand h.state i.state) (hands_in old) hs.items
      → (All (λ h. IsSoundHand key_of_work IsOwnKey h.state) (hands_in old) → All (λ h. IsSoundHand key_of_work IsOwnKey h.state) hs.items)
      → AreDriven (record old { hands = hs })
  hands_driven hs z f = record {
    one = stay_same old (record old { hands = hs }) (record { control = all_same.control; driver = all_same.driver; processors = all_same.processors; groups = all_same.groups; hands = z }) driven.one;
    sound = record { processors = driven.sound.processors; hands = f driven.sound.hands };
  }
