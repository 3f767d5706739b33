-- What a call of one part does to a runtime: that part did what its own call says, and all others are as they were.
use Rattle.std.specs.Prelude.{◌≡◌, ◌≢◌, ℕ, ◌<◌, ◌≤◌, List, [], Option, Result, length, get_or, set}
use Rattle.std.specs.declared.result.Result.TheVariants.{Ok, Err}
use Rattle.rcu_part_control.specs.Barriers.{OpensBy, PollsBy}
use Rattle.rcu_part_control.specs.Control.{Shuts, SwitchesBy}
use Rattle.rcu_part_control.specs.Parts.{control_board, control_view}
use Rattle.rcu_part_control.specs.declared.control.Control.{Control}
use Rattle.rcu_jobs.specs.declared.answers.Refused.{Refused}
use Rattle.rcu_jobs.specs.declared.answers.Ticket.{Ticket}
use Rattle.rcu_jobs.specs.declared.Counts.{Counts}
use Rattle.rcu_jobs.specs.declared.BarrierFault.{BarrierFault}
use Rattle.rcu_jobs.specs.declared.Passed.{Passed}
use Rattle.rcu_jobs.specs.declared.SwitchFault.{SwitchFault}
use Rattle.rcu_part_control.specs.declared.barrier.Barrier.{Barrier}
use Rattle.rcu_lists.specs.declared.pace.Kind.{Kind}
use Rattle.rcu_lists.specs.declared.pace.Kind.TheVariants.{Lazy, Plain}
use Rattle.rcu_part_processor.specs.Accepting.{IsLimit}
use Rattle.rcu_part_processor.specs.Calls.{IsAccepted, IsRefusedAs, KeepsAll}
use Rattle.rcu_part_processor.specs.Processors.{view_of}
use Rattle.rcu_part_processor.specs.declared.processor.Processor.{Processor}
use Rattle.rcu_part_processor.specs.declared.processor.ProcessorState.{ProcessorState}
use Rattle.rcu_part_steps.specs.Reports.{Reports}
use Rattle.rcu_parts.specs.OneOpen.{Parts, parts_board, processors_in}
use Rattle.rcu_runtime.specs.Runtimes.{Continues, accepted_in}
use Rattle.rcu_runtime.specs.declared.fault.NoProcessor.{NoProcessor}
use Rattle.rcu_runtime.specs.declared.fault.NotCalled.{NotCalled}
use Rattle.rcu_runtime.specs.declared.fault.NotCalled.TheVariants as not_called

module _ {J R : Type 0} where
  -- This is processor k.
  pub record IsProcessor (k : ℕ) (parts : Parts J R) (p : Processor J R) : Type 0 where
    pub there : k < length (processors_in parts)
    pub is : p ≡ get_or (processors_in parts) k p
    pub cpu : p.state.cpu ≡ k

  -- This holds of processor k.
  pub record OfProcessor (k : ℕ) (Holds : Processor J R → Type 0) (parts : Parts J R) : Type 0 where
    pub processor : Processor J R
    pub is : IsProcessor k parts processor
    pub holds : Holds processor

  -- There is no processor k.
  pub record IsNone (k : ℕ) (fault : NoProcessor) (parts : Parts J R) : Type 0 where
    pub named : fault.cpu ≡ k
    pub none : length (processors_in parts) ≤ k

  -- What a look at processor k answers: this is so of it, or there is none.
  abbrev pub AnswersOf : {A : Type 0} → ℕ → Result A NoProcessor → (A → Processor J R → Type 0) → Parts J R → Type 0
  AnswersOf k (Ok answer) Says parts = OfProcessor k (Says answer) parts
  AnswersOf k (Err fault) Says parts = IsNone k fault parts

  -- A call did this to processor k; all other parts are as they were, and the runtime goes on as the same one.
  pub record OnProcessor (k : ℕ) (Does : ProcessorState J R → ProcessorState J R → Type 0) (old new : Parts J R) : Type 0 where
    pub before : Processor J R
    pub after : Processor J R
    pub is : IsProcessor k old before
    pub does : Does before.state after.state
    pub processors : processors_in new ≡ set (processors_in old) k after
    pub groups : new.groups ≡ old.groups
    pub hands : new.hands ≡ old.hands
    pub driver : new.driver ≡ old.driver
    pub control : new.control ≡ old.control
    pub continues : Continues old new

  -- Nothing changed, so the runtime goes on as the same one, and no callback more is accepted.
  pub record LeavesAll (old new : Parts J R) : Type 0 where
    pub stays : new ≡ old
    pub continues : Continues old new
    pub none : accepted_in new ≡ accepted_in old

  -- There is no processor k, and nothing changed.
  pub record FindsNone (k : ℕ) (fault : NoProcessor) (old new : Parts J R) : Type 0 where
    pub is : IsNone k fault old
    pub leaves : LeavesAll old new

  -- A barrier of these counts is of another runtime, since it counts another number of processors, and nothing changed.
  pub record FindsOther (counts : Counts) (old new : Parts J R) : Type 0 where
    pub number : counts.n ≢ (parts_board old).processors
    pub leaves : LeavesAll old new

  -- A call did this to control; all other parts are as they were, and the runtime goes on as the same one, which has accepted no
  -- callback more.
  pub record OnControl (Does : Control → Control → Type 0) (old new : Parts J R) : Type 0 where
    pub does : Does old.control new.control
    pub processors : new.processors ≡ old.processors
    pub groups : new.groups ≡ old.groups
    pub hands : new.hands ≡ old.hands
    pub driver : new.driver ≡ old.driver
    pub continues : Continues old new
    pub none : accepted_in new ≡ accepted_in old

  -- ---- what a processor's calls do to it

  -- The job was accepted under the old count, which was below the limit.
  pub record AcceptsJob (moment : ℕ) (kind : Kind) (key : ℕ) (job : J) (t : Ticket) (p q : ProcessorState J R) : Type 0 where
    pub accepts : IsAccepted moment kind key job t p q
    pub room : p.accepted < p.limit

  -- the same of a plain job, and of one that may be held back longer
  abbrev pub AcceptsPlain : ℕ → ℕ → J → Ticket → ProcessorState J R → ProcessorState J R → Type 0
  AcceptsPlain moment key job t p q = AcceptsJob moment Plain key job t p q

  abbrev pub AcceptsLazy : ℕ → ℕ → J → Ticket → ProcessorState J R → ProcessorState J R → Type 0
  AcceptsLazy moment key job t p q = AcceptsJob moment Lazy key job t p q

  -- The job was refused, and nothing was accepted; at the limit for that reason.
  pub record RefusesJob (job : J) (refused : Refused J) (p q : ProcessorState J R) : Type 0 where
    pub why : IsRefusedAs job refused p q
    pub keeps : KeepsAll p q
    pub full : p.accepted ≡ p.limit → IsLimit refused

  -- a report, and nothing else
  pub record ReportsOnce (counted : Option ℕ) (p q : ProcessorState J R) : Type 0 where
    pub reports : Reports p.cpu counted (view_of p) (view_of q)
    pub keeps : KeepsAll p q

  -- The job comes back: there is no such processor, or it refused the job.
  abbrev pub GivesBack : ℕ → J → NotCalled J → Parts J R → Parts J R → Type 0
  GivesBack k job (not_called.NoProcessor cpu back) old new = (back ≡ job) × FindsNone k (record { cpu = cpu }) old new
  GivesBack k job (not_called.Refused refused) old new = OnProcessor k (RefusesJob job refused) old new

-- ---- what control's calls do to it

-- a switch of processor p was asked for (x: 1 for offloaded, 0 for local), or refused
abbrev pub Switches : ℕ → ℕ → Result (Unit {0}) SwitchFault → Control → Control → Type 0
Switches p x result c d = SwitchesBy (control_board c) p x result (control_view c) (control_view d)

-- every processor was shut
pub record ShutsAll (counts : Counts) (c d : Control) : Type 0 where
  pub many : counts.n ≡ (control_board c).processors
  pub shuts : Shuts (control_board c).processors counts (control_view c) (control_view d)

-- a barrier was opened with these tickets, or refused
abbrev pub Opens : List Ticket → Result Barrier BarrierFault → Control → Control → Type 0
Opens tickets result c d = OpensBy (control_board c).processors tickets result (control_view c) (control_view d)

-- a barrier was polled
abbrev pub Polls : Counts → Option Passed → Control → Control → Type 0
Polls counts passed c d = PollsBy counts passed (control_view c) (control_view d)

-- Control opened a barrier with no tickets, polled it once, and did nothing else.
pub record AsksOnce (c d : Control) : Type 0 where
  pub barrier : Barrier
  pub passed : Option Passed
  pub between : Control
  pub opens : Opens [] (Ok barrier) c between
  pub polls : Polls barrier.counts passed between d
