-- What is so of a part in place is so of the part that was put on and comes off.
use Rattle.std.proofs.Common.{◌≡◌, ℕ, subst₂}
use Rattle.rcu_part_hand.specs.Hands.{IsSoundHand, SameHand}
use Rattle.rcu_part_hand.specs.declared.hand.HandState.{HandState}
use Rattle.rcu_part_processor.specs.Processors.{IsSound, SameProcessor}
use Rattle.rcu_part_processor.specs.declared.processor.ProcessorState.{ProcessorState}

module _ {J R : Type 0} where
  pub hand_same : {p q o r : HandState J R} → p ≡ o → q ≡ r → SameHand p q → SameHand o r
  hand_same e f s = subst₂ (λ (x y : HandState J R). SameHand x y) e f s

  pub processor_same : {p q o r : ProcessorState J R} → p ≡ o → q ≡ r → SameProcessor p q → SameProcessor o r
  processor_same e f s = subst₂ (λ (x y : ProcessorState J R). SameProcessor x y) e f s

  pub hand_sound : (key_of : J → ℕ) (gives : ℕ → R → Type 0) {p q o r : HandState J R} → p ≡ o → q ≡ r → (IsSoundHand key_of gives p → IsSoundHand key_of gives q) → IsSoundHand key_of gives o → IsSoundHand key_of gives r
  hand_sound key_of gives e f s = subst₂ (λ (x y : HandState J R). IsSoundHand key_of gives x → IsSoundHand key_of gives y) e f s

  pub processor_sound : (key_of : J → ℕ) (gives : ℕ → R → Type 0) {p q o r : ProcessorState J R} → p ≡ o → q ≡ r → (IsSound key_of gives p → IsSound key_of gives q) → IsSound key_of gives o → IsSound key_of gives r
  processor_sound key_of gives e f s = subst₂ (λ (x y : ProcessorState J R). IsSound key_of gives x → IsSound key_of gives y) e f s
