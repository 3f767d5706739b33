-- What a processor's begin and finish do: docs/specification/surface.md, "rcu_parts".
use Rattle.std.specs.Prelude.{◌≡◌, ◌≢◌, ℕ, ◌+◌, ◌≤◌, ◌<◌, true, false, [], ◌∷◌, ◌++◌}
use Rattle.rcu_board.specs.Views.{sight}
use Rattle.rcu_board.specs.Words.{turns_word}
use Rattle.rcu_board.specs.declared.view.View.{View}
use Rattle.rcu_jobs.specs.declared.Stop.{Stop}
use Rattle.rcu_jobs.specs.declared.Stop.TheVariants.{Limit}
use Rattle.rcu_jobs.specs.declared.callback.Callback.{Callback}
use Rattle.rcu_lists.specs.Labels.{Done, marked}
use Rattle.rcu_numbers.specs.Numbers.{snap_of}
use Rattle.rcu_numbers.specs.declared.shape.TheConstants.{MOST_CALLS}
use Rattle.rcu_part_lists.specs.ProcessorLists.{held_in, holding}
use Rattle.rcu_part_lists.specs.declared.processor_lists.ProcessorLists.{ProcessorLists}
use Rattle.rcu_part_steps.specs.Begins.{claimed_as, record_with}
use Rattle.rcu_part_steps.specs.Changes.{Claims, Finishes, Keeps, StepsOnly}
use Rattle.rcu_part_order.specs.Recorded.{and_ran}
use Rattle.rcu_part_processor.specs.Processors.{SameProcessor, view_of, lists_of, records_of}
use Rattle.rcu_part_processor.specs.Running.{running_view, running_lists, running_records}
use Rattle.rcu_part_processor.specs.Ticks.{CatchesUp, Heeds, Settles, RanDone, StopsTick, TicksBy}
use Rattle.rcu_part_processor.specs.declared.processor.ProcessorState.{ProcessorState}
use Rattle.rcu_part_processor.specs.declared.running_processor.RunningProcessorState.{RunningProcessorState}

module _ {J R : Type 0} where
  -- The claim of the first callback of done, of which this is the job, was won at the board sight `seen`, by one step, and
  -- runs; its grace period was over.
  pub record ClaimsFirst (seen : ℕ) (p : ProcessorState J R) (q : RunningProcessorState J R) (job : J) : Type 0 where
    pub first : Callback J
    pub job_is : first.job ≡ job
    pub done : (lists_of p).own ≡ marked Done (first ∷ []) ++ (running_lists q).own
    pub others : running_lists q ≡ record (lists_of p) { own = (running_lists q).own }
    pub records : running_records q ≡ records_of p
    pub count : q.accepted ≡ p.accepted
    pub claimed : q.claimed ≡ claimed_as seen first
    pub over : snap_of first.stamp ≤ seen
    pub won : Claims p.cpu first.number (view_of p) (running_view q)
    pub steps : StepsOnly (turns_word p.cpu) 1 (view_of p) (running_view q)

  -- no claim was won, and why; so many were tried
  pub record ClaimsNone (seen : ℕ) (stop : Stop) (p q : ProcessorState J R) : Type 0 where
    pub tried : ℕ
    pub ran : RanDone 0 tried seen p q
    pub why : StopsTick stop 0 tried q

  -- A begin of which a claim runs: it catches up; an offloadable processor heeds what is asked and settles; then the first
  -- done callback is claimed.
  pub record BeginsTick (moment : ℕ) (p : ProcessorState J R) (q : RunningProcessorState J R) (job : J) : Type 0 where
    pub seen : ℕ
    pub first : ProcessorState J R
    pub second : ProcessorState J R
    pub third : ProcessorState J R
    -- all the while it is the same processor
    pub same : SameProcessor p first × SameProcessor p second × SameProcessor p third
    pub catches_up : CatchesUp seen p first
    pub local : p.offloadable ≡ false → (second ≡ first) × (third ≡ second)
    pub heeds : p.offloadable ≡ true → Heeds moment first second
    pub settles : p.offloadable ≡ true → Settles second third
    pub claims : ClaimsFirst seen third q job

  -- A begin of which none runs: a tick that ran nothing.
  abbrev pub StopsBegin : ℕ → Stop → ProcessorState J R → ProcessorState J R → Type 0
  StopsBegin moment stop p q = TicksBy moment (record { ran = 0; stop = stop }) p q

  -- A finish: the claim has ended by one step, its record is added, and nothing else changed.
  pub record FinishesProcessor (receipt : R) (p : RunningProcessorState J R) (q : ProcessorState J R) : Type 0 where
    pub records : records_of q ≡ and_ran (record_with receipt p.claimed ∷ []) (running_records p)
    pub lists : q.lists ≡ p.lists
    pub count : q.accepted ≡ p.accepted
    pub ends : Finishes (running_view p) (view_of q)
    pub steps : StepsOnly (turns_word p.cpu) 1 (running_view p) (view_of q)

-- The claim of the first callback of done was won by one step, and the callback was taken out.
pub record TakesDone {J : Type 0} (cpu : ℕ) (c : Callback J) (v w : View) (h k : ProcessorLists J) : Type 0 where
  pub done : (holding h).own ≡ marked Done (c ∷ []) ++ (holding k).own
  pub others : holding k ≡ record (holding h) { own = (holding k).own }
  -- it was the next in its place
  pub places : held_in (holding h) ≡ c ∷ held_in (holding k)
  pub graced : snap_of c.stamp ≤ (holding h).advanced
  pub small : c.number < MOST_CALLS
  pub won : Claims cpu c.number v w
  pub steps : StepsOnly (turns_word cpu) 1 v w

-- No claim was won, and nothing was taken out; so many were tried.
pub record TakesNone {J : Type 0} (R : Type 0) (cpu : ℕ) (stop : Stop) (v w : View) (h k : ProcessorLists J) : Type 0 where
  pub tried : ℕ
  pub lists : k ≡ h
  pub keeps : Keeps v w
  pub sight : sight w ≡ sight v
  pub steps : StepsOnly (turns_word cpu) tried v w
  -- the reason holds of a processor that holds so and has this view, however many were run before
  pub why : (q : ProcessorState J R) → q.cpu ≡ cpu → view_of q ≡ w → q.lists ≡ h → (n : ℕ) → StopsTick stop n (n + tried) q
  pub counts : stop ≢ Limit
