-- What a call of a processor answers, as what its worker is told.
use Rattle.std.proofs.Common.{◌≡◌, ◌≢◌, ℕ, ◌<◌, Result, Ok, Err, true, false, refl, sym, subst, arith}
use Rattle.std.specs.Prelude.{MatchResult}
use Rattle.rcu_jobs.specs.declared.answers.Refused.{Refused}
use Rattle.rcu_jobs.specs.declared.answers.Ticket.{Ticket}
use Rattle.rcu_lists.specs.declared.pace.Kind.{Kind}
use Rattle.rcu_lists.specs.declared.pace.Kind.TheVariants.{Lazy, Plain}
use Rattle.rcu_part_processor.specs.Processors.{IsSound}
use Rattle.rcu_part_processor.specs.declared.processor.Processor.{Processor}
use Rattle.rcu_runtime.proofs.Accepted.{Answers}
use Rattle.rcu_runtime_threads.specs.Says.{EndsAs}
use Rattle.rcu_runtime_threads.specs.Steps.{Does, ProcessorWorks}
use Rattle.rcu_runtime_threads.specs.declared.acts.Acted.{Acted}
use Rattle.rcu_runtime_threads.specs.declared.acts.Acted.TheVariants as acted
use Rattle.rcu_runtime_threads.specs.declared.worker.Answer.TheVariants as answer
use Rattle.rcu_runtime_threads.specs.declared.worker.WorkerEnd.{WorkerEnd}
use Rattle.rcu_runtime_threads.specs.declared.worker.WorkerEnd.TheVariants as end
use Rattle.rcu_runtime_threads.specs.declared.worker.Step.{Step}
use Rattle.rcu_runtime_threads.specs.declared.worker.Step.TheVariants as step

module _ {J R : Type 0} (key_of : J → ℕ) (moment : ℕ) (job : J) (p q : Processor J R) where
  -- the answer is handed on
  abbrev pub IsTold : Result Ticket (Refused J) → Acted J → Type 0
  IsTold r a = MatchResult r (λ t. a ≡ acted.Answers (answer.Called t)) (λ refused. a ≡ acted.Answers (answer.Refused refused))

  below : (kind : Kind) (key : ℕ) (t : Ticket) → Answers moment kind key job (Ok t) p q → p.state.accepted < p.state.limit
  below kind key t w = let few = p.state.small in let full : p.state.accepted ≢ p.state.limit = λ e. (let z : false ≡ true = (w.full e).1 in cc) in omega (arith, few, full)

  pub told_plain : (r : Result Ticket (Refused J)) (a : Acted J) → IsTold r a → Answers moment Plain (key_of job) job r p q → Does key_of (step.Call moment job) a p q
  told_plain (Ok t) a e w = subst (λ x. Does key_of (step.Call moment job) x p q) (sym e) (record { accepts = w.ok; room = below Plain (key_of job) t w })
  told_plain (Err x) a e w = subst (λ y. Does key_of (step.Call moment job) y p q) (sym e) (record { why = w.refused; keeps = w.err; full = λ e. (w.full e).0 })

  pub told_lazy : (r : Result Ticket (Refused J)) (a : Acted J) → IsTold r a → Answers moment Lazy (key_of job) job r p q → Does key_of (step.CallLazy moment job) a p q
  told_lazy (Ok t) a e w = subst (λ x. Does key_of (step.CallLazy moment job) x p q) (sym e) (record { accepts = w.ok; room = below Lazy (key_of job) t w })
  told_lazy (Err x) a e w = subst (λ y. Does key_of (step.CallLazy moment job) y p q) (sym e) (record { why = w.refused; keeps = w.err; full = λ e. (w.full e).0 })

  pub called_works : (gives : ℕ → R → Type 0) (kind : Kind) (r : Result Ticket (Refused J)) → Answers moment kind (key_of job) job r p q → (IsSound key_of gives p.state → IsSound key_of gives q.state) → ProcessorWorks key_of gives p q
  called_works gives kind (Ok t) w sound = record { keeps = record { same = w.same; sound = sound }; count = (let h = w.ok.count in omega (arith, h)) }
  called_works gives kind (Err x) w sound = record { keeps = record { same = w.same; sound = sound }; count = (let h = w.err.count in omega (arith, h)) }

module _ {J R W : Type 0} (key_of : J → ℕ) (ends_as : WorkerEnd → W → Type 0) (p q : Processor J R) (w v : W) where
  -- a worker that ends by a step is as it said
  pub ends_as_said : (s : Step J) (e : WorkerEnd) → EndsAs ends_as s w → Does key_of s (acted.Ends e) p q → (s ≢ step.Read → v ≡ w) → ends_as e v
  ends_as_said (step.Call moment job) e says d same = absurd d
  ends_as_said (step.CallLazy moment job) e says d same = absurd d
  ends_as_said step.Read e says d same = absurd d
  ends_as_said step.Report e says d same = absurd d
  ends_as_said (step.Tick moment) e says d same = absurd d
  ends_as_said step.OpenBarrier e says d same = absurd d
  ends_as_said (step.PollBarrier barrier) e says d same = absurd d
  ends_as_said step.Pause e says d same = absurd d
  ends_as_said step.Done end.Done says d same = subst (ends_as end.Done) (sym (same (λ r. let z = r in cc))) (says.0 refl)
  ends_as_said step.Done end.Failed says d same = absurd d
  ends_as_said step.Done end.NotBegun says d same = absurd d
  ends_as_said step.Fail end.Done says d same = absurd d
  ends_as_said step.Fail end.Failed says d same = subst (ends_as end.Failed) (sym (same (λ r. let z = r in cc))) (says.1 refl)
  ends_as_said step.Fail end.NotBegun says d same = absurd d

-- no step ends as one that wasn't made
pub none_ends_unbegun : {J R : Type 0} (key_of : J → ℕ) (s : Step J) (p q : Processor J R) → Does key_of s (acted.Ends end.NotBegun) p q → ⊥
none_ends_unbegun key_of (step.Call moment job) p q d = d
none_ends_unbegun key_of (step.CallLazy moment job) p q d = d
none_ends_unbegun key_of step.Read p q d = d
none_ends_unbegun key_of step.Report p q d = d
none_ends_unbegun key_of (step.Tick moment) p q d = d
none_ends_unbegun key_of step.OpenBarrier p q d = d
none_ends_unbegun key_of (step.PollBarrier barrier) p q d = d
none_ends_unbegun key_of step.Pause p q d = d
none_ends_unbegun key_of step.Done p q d = d
none_ends_unbegun key_of step.Fail p q d = d
