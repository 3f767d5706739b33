-- What a hand's begin and finish do: docs/specification/surface.md, "rcu_parts".
use Rattle.std.specs.Prelude.{◌≡◌, ◌≢◌, ℕ, ◌+◌, ◌≤◌, ◌<◌, List, [], ◌∷◌, ◌++◌}
use Rattle.std.specs.Arc.{arc_value}
use Rattle.rcu_board.specs.Seats.{view}
use Rattle.rcu_board.specs.Views.{sight}
use Rattle.rcu_board.specs.Words.{turns_word}
use Rattle.rcu_board.specs.declared.board.Board.{Board}
use Rattle.rcu_board.specs.declared.view.View.{View}
use Rattle.rcu_board.specs.Frames.{SamePart}
use Rattle.rcu_part_lists.specs.Helds.{front_of, drawn_by, held_by, taken_by}
use Rattle.rcu_part_lists.specs.declared.hand.Held.{Held}
use Rattle.rcu_jobs.specs.Records.{Given}
use Rattle.rcu_jobs.specs.declared.Stop.{Stop}
use Rattle.rcu_jobs.specs.declared.Stop.TheVariants.{Again, Limit}
use Rattle.rcu_jobs.specs.declared.callback.Callback.{Callback}
use Rattle.rcu_lanes.specs.Ends.{SameFront}
use Rattle.rcu_numbers.specs.Numbers.{snap_of}
use Rattle.rcu_numbers.specs.declared.shape.TheConstants.{MOST_CALLS}
use Rattle.rcu_part_order.specs.Recorded.{Recorded, and_ran, recorded}
use Rattle.rcu_part_steps.specs.Begins.{claimed_as, record_with}
use Rattle.rcu_part_steps.specs.Changes.{Claims, Finishes, Keeps, StepsOnly}
use Rattle.rcu_part_steps.specs.Places.{AreKeyed}
use Rattle.rcu_part_hand.specs.Hands.{SameHand, Looks, Loads, StopsAt, TurnsBy, hand_board, hand_view, hand_records, hand_drawn, hand_held}
use Rattle.rcu_part_hand.specs.declared.hand.HandState.{HandState}
use Rattle.rcu_part_hand.specs.declared.running_hand.RunningHandState.{RunningHandState}

module _ {J R : Type 0} where
  abbrev pub running_board : RunningHandState J R → Board
  running_board h = arc_value h.hand.board

  abbrev pub running_view : RunningHandState J R → View
  running_view h = view h.hand.seat

  -- all records of what it ran, and which of them are left
  abbrev pub running_records : RunningHandState J R → Recorded R
  running_records h = recorded h.hand.ran

  -- all that it drew, and of that what it holds
  abbrev pub running_drawn : RunningHandState J R → List (Callback J)
  running_drawn h = drawn_by h.hand.held

  abbrev pub running_held : RunningHandState J R → List (Callback J)
  running_held h = held_by h.hand.held

  -- the same part of the same open, once a claim of it runs, and once that has ended
  pub record SameBegun (p : HandState J R) (q : RunningHandState J R) : Type 0 where
    pub part : SamePart (hand_board p) (running_board q) p.hand.seat q.hand.seat
    pub lane : SameFront (front_of p.hand.held) (front_of q.hand.held)
    pub cpu : q.hand.cpu ≡ p.hand.cpu
    pub blimit : q.hand.blimit ≡ p.hand.blimit
    pub kept : q.hand.ran.kept ≡ p.hand.ran.kept

  pub record SameFinished (p : RunningHandState J R) (q : HandState J R) : Type 0 where
    pub part : SamePart (running_board p) (hand_board q) p.hand.seat q.hand.seat
    pub lane : SameFront (front_of p.hand.held) (front_of q.hand.held)
    pub cpu : q.hand.cpu ≡ p.hand.cpu
    pub blimit : q.hand.blimit ≡ p.hand.blimit
    pub kept : q.hand.ran.kept ≡ p.hand.ran.kept

  -- What a hand knows of jobs while a claim of it runs: what it knows between its calls.
  abbrev pub IsSoundRunning : (J → ℕ) → (ℕ → R → Type 0) → RunningHandState J R → Type 0
  IsSoundRunning key_of gives h = AreKeyed key_of (running_drawn h) → Given gives (running_records h).all

  -- The job that was handed out has the key that its record will have, where each callback that was drawn has its job's.
  abbrev pub IsKeyed : (J → ℕ) → RunningHandState J R → J → Type 0
  IsKeyed key_of h job = AreKeyed key_of (running_drawn h) → key_of job ≡ h.claimed.key

  -- The receipt is as the relation wants it for that key, where each callback that was drawn has its job's.
  abbrev pub IsGivenFor : (J → ℕ) → (ℕ → R → Type 0) → RunningHandState J R → R → Type 0
  IsGivenFor key_of gives h receipt = AreKeyed key_of (running_drawn h) → gives h.claimed.key receipt

  -- The claim of the first callback that was held, of which this is the job, was won at the board sight `seen`, by one step,
  -- and runs; its grace period was over.
  pub record ClaimsFirst (seen : ℕ) (p : HandState J R) (q : RunningHandState J R) (job : J) : Type 0 where
    pub first : Callback J
    pub job_is : first.job ≡ job
    pub held : hand_held p ≡ first ∷ running_held q
    pub drawn : running_drawn q ≡ hand_drawn p
    pub records : running_records q ≡ hand_records p
    pub claimed : q.claimed ≡ claimed_as seen first
    pub over : snap_of first.stamp ≤ seen
    pub won : Claims p.hand.cpu first.number (hand_view p) (running_view q)
    pub steps : StepsOnly (turns_word p.hand.cpu) 1 (hand_view p) (running_view q)

  -- A begin of which a claim runs: a look, a draw at most, and then the claim.
  pub record BeginsHand (p : HandState J R) (q : RunningHandState J R) (job : J) : Type 0 where
    pub seen : ℕ
    pub first : HandState J R
    pub second : HandState J R
    -- all the while it is the same hand
    pub same : SameHand p first × SameHand p second
    pub looks : Looks seen p first
    pub loads : Loads first second
    pub claims : ClaimsFirst seen second q job

  -- A begin of which none runs: a turn that ran nothing.
  abbrev pub StopsHand : Stop → HandState J R → HandState J R → Type 0
  StopsHand stop p q = TurnsBy (record { ran = 0; stop = stop }) p q

  -- A finish: the claim has ended by one step, its record is added, and nothing else changed.
  pub record FinishesHand (receipt : R) (p : RunningHandState J R) (q : HandState J R) : Type 0 where
    pub records : hand_records q ≡ and_ran (record_with receipt p.claimed ∷ []) (running_records p)
    pub held : q.hand.held ≡ p.hand.held
    pub ends : Finishes (running_view p) (hand_view q)
    pub steps : StepsOnly (turns_word p.hand.cpu) 1 (running_view p) (hand_view q)

-- The claim of the first callback that was held was won at the board sight `seen` by one step, and the callback was taken
-- out; its grace period was over.
pub record TakesFirst {J : Type 0} (cpu seen : ℕ) (c : Callback J) (v w : View) (h k : Held J) : Type 0 where
  pub held : held_by h ≡ c ∷ held_by k
  pub taken : taken_by k ≡ taken_by h ++ c ∷ []
  pub over : snap_of c.stamp ≤ seen
  pub small : c.number < MOST_CALLS
  pub won : Claims cpu c.number v w
  pub steps : StepsOnly (turns_word cpu) 1 v w

-- No claim was won, and nothing was taken out; so many were tried.
pub record TakesNone {J : Type 0} (R : Type 0) (cpu seen : ℕ) (stop : Stop) (v w : View) (h k : Held J) : Type 0 where
  pub tried : ℕ
  pub held : k ≡ h
  pub keeps : Keeps v w
  pub sight : sight w ≡ sight v
  pub steps : StepsOnly (turns_word cpu) tried v w
  -- the reason holds of a hand that holds so and has this view, however many were run before
  pub why : (q : HandState J R) → q.hand.cpu ≡ cpu → hand_view q ≡ w → q.hand.held ≡ h → (n : ℕ) → StopsAt stop n (n + tried) seen q
  pub counts : (stop ≢ Limit) × (stop ≢ Again)
