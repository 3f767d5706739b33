-- One step of a worker after another.
use Rattle.std.proofs.Common.{◌≡◌, ℕ, arith}
use Rattle.rcu_part_processor.proofs.TickRuns.{same_processor, same_processor_again}
use Rattle.rcu_part_processor.specs.Processors.{IsSound, SameProcessor}
use Rattle.rcu_part_processor.specs.declared.processor.Processor.{Processor}
use Rattle.rcu_runtime_threads.specs.Steps.{ProcessorWorks}

module _ {J R : Type 0} (key_of : J → ℕ) (gives : ℕ → R → Type 0) where
  pub works_itself : (p : Processor J R) → ProcessorWorks key_of gives p p
  works_itself p = record { keeps = record { same = same_processor p.state; sound = λ s. s }; count = omega arith }

  pub works_again : (p q r : Processor J R) → ProcessorWorks key_of gives p q → ProcessorWorks key_of gives q r → ProcessorWorks key_of gives p r
  works_again p q r a b = record {
    keeps = record { same = same_processor_again p.state q.state r.state a.keeps.same b.keeps.same; sound = λ s. b.keeps.sound (a.keeps.sound s) };
    count = omega (arith, a.count, b.count);
  }

  -- what a step leaves that accepts nothing
  pub works_once : (p q : Processor J R) → SameProcessor p.state q.state → (IsSound key_of gives p.state → IsSound key_of gives q.state) → q.state.accepted ≡ p.state.accepted → ProcessorWorks key_of gives p q
  works_once p q same sound count = record { keeps = record { same = same; sound = sound }; count = omega (arith, count) }

  -- and what two such steps leave
  pub works_twice : (p q r : Processor J R) → SameProcessor p.state q.state → (IsSound key_of gives p.state → IsSound key_of gives q.state) → q.state.accepted ≡ p.state.accepted → SameProcessor q.state r.state
      → (IsSound key_of gives q.state → IsSound key_of gives r.state) → r.state.accepted ≡ q.state.accepted → ProcessorWorks key_of gives p r
  works_twice p q r same sound count same' sound' count' = works_again p q r (works_once p q same sound count) (works_once q r same' sound' count')
