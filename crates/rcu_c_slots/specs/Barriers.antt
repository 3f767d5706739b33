-- What the calls on barriers do, by control or a processor in a slot.
use Rattle.std.specs.Prelude.{◌≡◌, ◌≢◌, ℕ, Option, Result, MatchResult, []}
use Rattle.std.specs.declared.result.Result.TheVariants.{Ok}
use Rattle.rcu_part_control.specs.Barriers.{OpensBy, PollsBy}
use Rattle.rcu_part_control.specs.Parts.{control_board, control_view, SameControl}
use Rattle.rcu_part_control.specs.declared.barrier.Barrier.{Barrier}
use Rattle.rcu_part_control.specs.declared.control.Control.{Control as TheControl}
use Rattle.rcu_jobs.specs.declared.Counts.{Counts}
use Rattle.rcu_jobs.specs.declared.Passed.{Passed}
use Rattle.rcu_c_slots.specs.Parts.{Answers, Gives, IsRefused, WhereRests, not_resting}
use Rattle.rcu_c_slots.specs.Processors.{KeepsProcessor, OpensOne, state_of}
use Rattle.rcu_c_slots.specs.declared.fault.Fault.{Fault}
use Rattle.rcu_c_slots.specs.declared.fault.Fault.TheVariants.{Foreign}
use Rattle.rcu_c_slots.specs.declared.lent.LentProcessor.{LentProcessor}
use Rattle.rcu_c_slots.specs.declared.part.Part.{Part}
use Rattle.rcu_c_slots.specs.declared.part.Part.TheVariants.{Control, Processor}
use Rattle.rcu_part_processor.specs.InPlace.{KeepsAll, board_in, view_in}

-- control opened a barrier
pub record ControlOpens (b : Barrier) (c d : TheControl) : Type 0 where
  pub same : SameControl c d
  pub opens : OpensBy (control_board c).processors [] (Ok b) (control_view c) (control_view d)

-- control or a processor opened it, by what the part was
abbrev pub OpensPart : Result Barrier Fault → Part → Part → Type 0
OpensPart result (Control c) new = Gives Control ControlOpens result c new
OpensPart result (Processor p) new = (q : LentProcessor) × (new ≡ Processor q) × WhereRests p.job (Answers OpensOne) result p q
OpensPart result old new = IsRefused (not_resting old) result old new

-- control read turn words, of as many processors as there are: the barrier has passed, or not yet
pub record PollsOne (counts : Counts) (passed : Option Passed) (c d : TheControl) : Type 0 where
  pub many : counts.n ≡ (control_board c).processors
  pub same : SameControl c d
  pub polls : PollsBy counts passed (control_view c) (control_view d)

-- a processor did, and nothing else changed
pub record PollsCpu (counts : Counts) (passed : Option Passed) (p q : LentProcessor) : Type 0 where
  pub many : counts.n ≡ (board_in (state_of p)).processors
  pub kept : KeepsProcessor p q
  pub lists : KeepsAll (state_of p) (state_of q)
  pub polls : PollsBy counts passed (view_in (state_of p)) (view_in (state_of q))

-- the barrier counts other processors than there are, and nothing was read
pub record IsForeignTo (processors : ℕ) (counts : Counts) (fault : Fault) : Type 0 where
  pub differs : counts.n ≢ processors
  pub named : fault ≡ Foreign

abbrev pub PollsControl : Counts → Result (Option Passed) Fault → TheControl → TheControl → Type 0
PollsControl counts result c d = MatchResult result
    (λ passed. PollsOne counts passed c d)
    (λ fault. (d ≡ c) × IsForeignTo (control_board c).processors counts fault)

abbrev pub PollsProcessor : Counts → Result (Option Passed) Fault → LentProcessor → LentProcessor → Type 0
PollsProcessor counts result p q = MatchResult result
    (λ passed. PollsCpu counts passed p q)
    (λ fault. (q ≡ p) × IsForeignTo (board_in (state_of p)).processors counts fault)

-- A poll, by what the part was.
abbrev pub PollsPart : Counts → Result (Option Passed) Fault → Part → Part → Type 0
PollsPart counts result (Control c) new = (d : TheControl) × (new ≡ Control d) × PollsControl counts result c d
PollsPart counts result (Processor p) new = (q : LentProcessor) × (new ≡ Processor q) × WhereRests p.job (PollsProcessor counts) result p q
PollsPart counts result old new = IsRefused (not_resting old) result old new
