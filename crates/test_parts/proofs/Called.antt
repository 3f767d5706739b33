-- A call of a processor, by what it answered.
use Rattle.std.proofs.Common.{◌≡◌, ℕ, subst, sym, refl}
use Rattle.std.specs.Prelude.{IfErr, IfOk, Ok, Err, Result}
use Rattle.rcu_jobs.specs.Refusals.{number_of}
use Rattle.rcu_jobs.specs.declared.answers.Refused.{Refused as TheRefused}
use Rattle.rcu_jobs.specs.declared.answers.Ticket.{Ticket}
use Rattle.rcu_lists.specs.declared.pace.Kind.{Kind}
use Rattle.rcu_part_processor.specs.Calls.{IsAccepted, IsRefusedAs, KeepsAll}
use Rattle.rcu_part_processor.specs.declared.processor.ProcessorState.{ProcessorState}
use Rattle.test_parts.specs.Acts.{CallsBy}
use Rattle.test_parts.specs.declared.phases.phase.Answer.{Answer}
use Rattle.test_parts.specs.declared.phases.phase.Answer.TheVariants.{Accepted, Refused}

module _ {J R : Type 0} (key_of : J → ℕ) (moment : ℕ) (kind : Kind) (job : J) (p q : ProcessorState J R) where
  pub called : (r : Result Ticket (TheRefused J)) (a : Answer) → IfOk r (λ t. a ≡ Accepted t) → IfErr r (λ x. a ≡ Refused (number_of x))
      → IfOk r (λ t. IsAccepted moment kind (key_of job) job t p q) → IfErr r (λ _. KeepsAll p q) → IfErr r (λ x. IsRefusedAs job x p q) → CallsBy key_of moment kind job a p q
  called (Ok t) a is not ok keeps why = subst (λ b. CallsBy key_of moment kind job b p q) (sym is) ok
  called (Err x) a not is ok keeps why = subst (λ b. CallsBy key_of moment kind job b p q) (sym is) (record { refused = x; numbered = refl; why = why; keeps = keeps })
