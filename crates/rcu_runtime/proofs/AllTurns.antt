-- What turns do, said of the whole runtime.
use Rattle.std.proofs.Common.{◌≡◌, ℕ, subst}
use Rattle.std.specs.List.{AllZip}
use Rattle.rcu_jobs.specs.declared.turns.DriverTurn.{DriverTurn}
use Rattle.rcu_parts.specs.OneOpen.{AreOfOneOpen, Parts, groups_in, hands_in, processors_in}
use Rattle.rcu_runtime.specs.Passing.{PassesGroup, PassesHand, PassesTick}
use Rattle.rcu_runtime.specs.Turns.{Drives, TurnsAll, TurnsDriver, TurnsGroups, TurnsHands, TurnsProcessors}
use Rattle.rcu_runtime.proofs.Wholes.{Turned, cpus_stay, group_turns_of, groups_stay, hand_turns_of, hands_stay, ticks_of, turned_continues, turned_count}
use Rattle.rcu_part_control.specs.Parts.{SameDriver}

module _ {J R : Type 0} (key_of : J → ℕ) (gives : ℕ → R → Type 0) where
  module _ (old parts new : Parts J R) (seen : parts ≡ old) (t : Turned key_of gives parts new) (one : AreOfOneOpen parts) where
    pub turns_all : (moment : ℕ) (answer : DriverTurn) → AllZip (PassesTick key_of gives moment) (processors_in parts) (processors_in new) → AllZip PassesGroup (groups_in parts) (groups_in new)
        → AllZip (PassesHand key_of gives) (hands_in parts) (hands_in new) → Drives answer parts.driver new.driver → new.control ≡ parts.control → TurnsAll moment answer old new
    turns_all moment answer ps gs hs d control = subst (λ (x : Parts J R). TurnsAll moment answer x new) seen (record {
      processors = ticks_of key_of gives moment (processors_in parts) (processors_in new) ps;
      groups = group_turns_of (groups_in parts) (groups_in new) gs;
      hands = hand_turns_of key_of gives (hands_in parts) (hands_in new) hs;
      driver = d;
      control = control;
      continues = turned_continues key_of gives parts new t one;
      none = turned_count key_of gives parts new t;
    })

    pub turns_processors : (moment : ℕ) → AllZip (PassesTick key_of gives moment) (processors_in parts) (processors_in new) → new.groups ≡ parts.groups → new.hands ≡ parts.hands → new.driver ≡ parts.driver
        → new.control ≡ parts.control → TurnsProcessors moment old new
    turns_processors moment ps groups hands driver control = subst (λ (x : Parts J R). TurnsProcessors moment x new) seen
        (record { processors = ticks_of key_of gives moment (processors_in parts) (processors_in new) ps; groups = groups; hands = hands; driver = driver; control = control; continues = turned_continues key_of gives parts new t one; none = turned_count key_of gives parts new t })

    pub turns_groups : AllZip PassesGroup (groups_in parts) (groups_in new) → new.processors ≡ parts.processors → new.hands ≡ parts.hands → new.driver ≡ parts.driver → new.control ≡ parts.control → TurnsGroups old new
    turns_groups gs processors hands driver control = subst (λ (x : Parts J R). TurnsGroups x new) seen
        (record { groups = group_turns_of (groups_in parts) (groups_in new) gs; processors = processors; hands = hands; driver = driver; control = control; continues = turned_continues key_of gives parts new t one; none = turned_count key_of gives parts new t })

    pub turns_hands : AllZip (PassesHand key_of gives) (hands_in parts) (hands_in new) → new.processors ≡ parts.processors → new.groups ≡ parts.groups → new.driver ≡ parts.driver → new.control ≡ parts.control → TurnsHands old new
    turns_hands hs processors groups driver control = subst (λ (x : Parts J R). TurnsHands x new) seen
        (record { hands = hand_turns_of key_of gives (hands_in parts) (hands_in new) hs; processors = processors; groups = groups; driver = driver; control = control; continues = turned_continues key_of gives parts new t one; none = turned_count key_of gives parts new t })

    pub turns_driver : (answer : DriverTurn) → Drives answer parts.driver new.driver → new.processors ≡ parts.processors → new.groups ≡ parts.groups → new.hands ≡ parts.hands → new.control ≡ parts.control → TurnsDriver answer old new
    turns_driver answer d processors groups hands control = subst (λ (x : Parts J R). TurnsDriver answer x new) seen
        (record { driver = d; processors = processors; groups = groups; hands = hands; control = control; continues = turned_continues key_of gives parts new t one; none = turned_count key_of gives parts new t })

  module _ (parts new : Parts J R) where
    pub all_turned : (moment : ℕ) → AllZip (PassesTick key_of gives moment) (processors_in parts) (processors_in new) → AllZip PassesGroup (groups_in parts) (groups_in new)
        → AllZip (PassesHand key_of gives) (hands_in parts) (hands_in new) → SameDriver parts.driver new.driver → new.control ≡ parts.control → Turned key_of gives parts new
    all_turned moment ps gs hs d control = record {
      processors = cpus_stay key_of gives moment (processors_in parts) (processors_in new) ps;
      groups = groups_stay key_of gives (groups_in parts) (groups_in new) gs;
      hands = hands_stay key_of gives (hands_in parts) (hands_in new) hs;
      driver = d;
      control = control;
    }
