-- A runtime that ran in threads is the same runtime, and whole.
use Rattle.std.proofs.Common.{ℕ, ◌≤◌, List, [], ◌∷◌, sum_by, arith}
use Rattle.std.proofs.lemmas.List.Sums.{sum_by-cons}
use Rattle.std.specs.List.{AllZip}
use Rattle.rcu_part_hand.specs.Hands.{IsSoundHand, SameHand}
use Rattle.rcu_part_hand.specs.declared.hand.Hand.{Hand}
use Rattle.rcu_part_processor.specs.Processors.{IsSound, SameProcessor}
use Rattle.rcu_part_processor.specs.declared.processor.Processor.{Processor}
use Rattle.rcu_parts.proofs.Draining.{stays_drained}
use Rattle.rcu_parts.specs.OneOpen.{AreOfOneOpen, Parts, hands_in, processors_in}
use Rattle.rcu_parts.specs.SameParts.{AreSameParts}
use Rattle.rcu_runtime.proofs.Changing.{all_along}
use Rattle.rcu_runtime.proofs.Wholes.{whole_kept}
use Rattle.rcu_runtime.specs.Runtimes.{Continues, IsWhole}
use Rattle.rcu_runtime_threads.specs.Runs.{HaveWorked}
use Rattle.rcu_runtime_threads.specs.Stays.{HandStays}
use Rattle.rcu_runtime_threads.specs.Steps.{ProcessorWorks}
use Rattle.rcu_lemmas.proofs.Zips.{zip_weaker}

module _ {J R : Type 0} (key_of : J → ℕ) (gives : ℕ → R → Type 0) where
  more_accepted : (ps qs : List (Processor J R)) → AllZip (ProcessorWorks key_of gives) ps qs → sum_by (λ p. p.state.accepted) ps ≤ sum_by (λ p. p.state.accepted) qs
  more_accepted [] [] z = omega arith
  more_accepted [] (q ∷ qs) z = absurd z
  more_accepted (p ∷ ps) [] z = absurd z
  more_accepted (p ∷ ps) (q ∷ qs) z = omega (arith, z.0.count, more_accepted ps qs z.1, sum_by-cons (λ (x : Processor J R). x.state.accepted) p ps, sum_by-cons (λ (x : Processor J R). x.state.accepted) q qs)

  module _ (old new : Parts J R) (w : HaveWorked key_of gives old new) where
    same_parts : AreSameParts old new
    same_parts = record {
      control = w.control;
      driver = w.driver;
      processors = zip_weaker (ProcessorWorks key_of gives) (λ p q. SameProcessor p.state q.state) (λ p q k. k.keeps.same) (processors_in old) (processors_in new) w.processors;
      groups = w.groups;
      hands = zip_weaker (HandStays key_of gives) (λ h i. SameHand h.state i.state) (λ h i k. k.same) (hands_in old) (hands_in new) w.hands;
    }

    pub worked_whole : (limit : ℕ) → IsWhole key_of gives limit old → IsWhole key_of gives limit new
    worked_whole limit whole = whole_kept key_of gives limit old new same_parts
        (λ s. record {
          processors = all_along (λ (p : Processor J R). IsSound key_of gives p.state) (ProcessorWorks key_of gives) (λ p q k. k.keeps.sound) (processors_in old) (processors_in new) w.processors s.processors;
          hands = all_along (λ (h : Hand J R). IsSoundHand key_of gives h.state) (HandStays key_of gives) (λ h i k. k.sound) (hands_in old) (hands_in new) w.hands s.hands;
        }) whole

    pub worked_continues : AreOfOneOpen old → Continues old new
    worked_continues one = record { same = same_parts; accepted = more_accepted (processors_in old) (processors_in new) w.processors; drained = λ d. (d.0, stays_drained d.0 old new same_parts one d.1) }
