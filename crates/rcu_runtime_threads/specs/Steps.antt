-- What a step of a worker does to its processor.
use Rattle.std.specs.Prelude.{◌≡◌, ◌≢◌, ℕ, ◌≤◌}
use Rattle.rcu_part_control.specs.Barriers.{Opens, PollsBy}
use Rattle.rcu_part_processor.specs.Calls.{KeepsAll}
use Rattle.rcu_part_processor.specs.Processors.{board_of, view_of}
use Rattle.rcu_part_processor.specs.declared.processor.Processor.{Processor}
use Rattle.rcu_runtime.specs.Calls.{AcceptsLazy, AcceptsPlain, RefusesJob, ReportsOnce}
use Rattle.rcu_runtime.specs.Passing.{KeepsProcessor}
use Rattle.rcu_runtime.specs.Turns.{Ticks}
use Rattle.rcu_runtime_threads.specs.declared.acts.Acted.{Acted}
use Rattle.rcu_runtime_threads.specs.declared.acts.Acted.TheVariants as acted
use Rattle.rcu_runtime_threads.specs.declared.post.Post.{Post}
use Rattle.rcu_runtime_threads.specs.declared.worker.Answer.TheVariants as answer
use Rattle.rcu_runtime_threads.specs.declared.worker.WorkerEnd.{WorkerEnd}
use Rattle.rcu_runtime_threads.specs.declared.worker.WorkerEnd.TheVariants as end
use Rattle.rcu_runtime_threads.specs.declared.worker.Step.{Step}
use Rattle.rcu_runtime_threads.specs.declared.worker.Step.TheVariants as step

module _ {J R : Type 0} where
  -- The same processor of its open, which knows of its jobs what it should if it did before, and has accepted no less.
  pub record ProcessorWorks (key_of : J → ℕ) (gives : ℕ → R → Type 0) (p q : Processor J R) : Type 0 where
    pub keeps : KeepsProcessor key_of gives p q
    pub count : p.state.accepted ≤ q.state.accepted

  -- The same of a processor with its worker, which is the same one. Where it made no step, both are as they were; else it is
  -- as it said when it ended.
  pub record PostWorks {W : Type 0} (key_of : J → ℕ) (gives : ℕ → R → Type 0) (name_of : W → ℕ) (ends_as : WorkerEnd → W → Type 0) (p q : Post (Processor J R) W) : Type 0 where
    pub processor : ProcessorWorks key_of gives p.processor q.processor
    pub name : name_of q.worker ≡ name_of p.worker
    pub unbegun : q.end ≡ end.NotBegun → (q.processor ≡ p.processor) × (q.worker ≡ p.worker)
    pub ended : q.end ≢ end.NotBegun → ends_as q.end q.worker

  -- Each step is that call of the processor, and what is answered is what the call answered.
  abbrev pub Does : (J → ℕ) → Step J → Acted J → Processor J R → Processor J R → Type 0
  Does key_of (step.Call moment job) (acted.Answers (answer.Called t)) p q = AcceptsPlain moment (key_of job) job t p.state q.state
  Does key_of (step.Call moment job) (acted.Answers (answer.Refused refused)) p q = RefusesJob job refused p.state q.state
  Does key_of (step.CallLazy moment job) (acted.Answers (answer.Called t)) p q = AcceptsLazy moment (key_of job) job t p.state q.state
  Does key_of (step.CallLazy moment job) (acted.Answers (answer.Refused refused)) p q = RefusesJob job refused p.state q.state
  Does key_of step.Read (acted.Answers answer.WasRead) p q = q ≡ p
  Does key_of step.Report (acted.Answers (answer.Reported counted)) p q = ReportsOnce counted p.state q.state
  Does key_of (step.Tick moment) (acted.Answers (answer.Ticked ticked)) p q = Ticks moment ticked p.state q.state
  Does key_of step.OpenBarrier (acted.Answers (answer.Opened barrier)) p q = Opens (board_of p.state).processors barrier (view_of p.state) (view_of q.state) × KeepsAll p.state q.state
  Does key_of (step.PollBarrier barrier) (acted.Answers (answer.Polled passed)) p q = PollsBy barrier.counts passed (view_of p.state) (view_of q.state) × KeepsAll p.state q.state
  Does key_of (step.PollBarrier barrier) (acted.Answers answer.OtherBarrier) p q = (barrier.counts.n ≢ (board_of p.state).processors) × (q ≡ p)
  Does key_of step.Pause (acted.Answers answer.Paused) p q = q ≡ p
  Does key_of step.Done (acted.Ends end.Done) p q = q ≡ p
  Does key_of step.Fail (acted.Ends end.Failed) p q = q ≡ p
  Does key_of _ _ p q = ⊥
