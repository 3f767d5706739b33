-- A processor in place: between its calls it is a processor, or a running processor, and what its calls do is said of those:
-- docs/specification/surface.md, "rcu_parts", `begin` and `finish`.
use Rattle.std.specs.Prelude.{◌≡◌, ◌≢◌, ℕ, Result, IfOk, IfErr, IsErr}
use Rattle.std.specs.declared.option.Option.TheVariants.{None, Some}
use Rattle.std.specs.Arc.{arc_value}
use Rattle.std.proofs.lemmas.Option.{none-some}
use Rattle.rcu_board.specs.Seats.{SawShut, view}
use Rattle.rcu_board.specs.declared.board.Board.{Board}
use Rattle.rcu_board.specs.declared.board.Seat.{Seat}
use Rattle.rcu_board.specs.declared.view.View.{View}
use Rattle.rcu_jobs.specs.Records.{Given}
use Rattle.rcu_jobs.specs.declared.Stop.{Stop}
use Rattle.rcu_jobs.specs.declared.Stop.TheVariants.{Limit}
use Rattle.rcu_jobs.specs.declared.answers.Refused.{Refused}
use Rattle.rcu_jobs.specs.declared.answers.Ticket.{Ticket}
use Rattle.rcu_lists.specs.declared.pace.Kind.{Kind}
use Rattle.rcu_part_lists.specs.ProcessorLists.{Holding, holding, passed_on, rear_of}
use Rattle.rcu_part_order.specs.Recorded.{ran_of, recorded}
use Rattle.rcu_part_steps.specs.Places.{AreKeyed}
use Rattle.rcu_part_steps.specs.declared.begins.ClaimedCallback.{ClaimedCallback}
use Rattle.rcu_part_processor.specs.Accepting.{Accepting, Accepts, AcceptsNone, IsRefusedByLimit, Refuses}
use Rattle.rcu_part_processor.specs.Processors.{SameProcessor}
use Rattle.rcu_part_processor.specs.Running.{Identity, IsSamePart, SameBegun, SameFinished}
use Rattle.rcu_part_processor.specs.declared.in_place.ProcessorInPlaceState.{ProcessorInPlaceState}
use Rattle.rcu_part_processor.specs.declared.processor.ProcessorState.{ProcessorState}
use Rattle.rcu_part_processor.specs.declared.running_processor.RunningProcessorState.{RunningProcessorState}

module _ {J R : Type 0} where
  -- where no claim runs, it is this processor
  abbrev pub resting : (p : ProcessorInPlaceState J R) → p.claimed ≡ None → ProcessorState J R
  resting p e = record {
    board = p.board;
    seat = p.seat;
    cpu = p.cpu;
    offloadable = p.offloadable;
    limit = p.limit;
    blimit = p.blimit;
    accepted = p.accepted;
    passed = p.passed;
    ran = p.ran;
    lists = p.lists;
    here = p.here;
    role = p.role;
    there = p.there;
    bit = p.bit;
    local = p.local;
    small = p.small;
    since = p.since;
    lawful = p.rests e;
  }

  -- in place it stands so, where no claim runs
  abbrev pub in_place : ProcessorState J R → ProcessorInPlaceState J R
  in_place o = record {
    board = o.board;
    seat = o.seat;
    cpu = o.cpu;
    offloadable = o.offloadable;
    limit = o.limit;
    blimit = o.blimit;
    accepted = o.accepted;
    passed = o.passed;
    ran = o.ran;
    claimed = None;
    lists = o.lists;
    here = o.here;
    role = o.role;
    there = o.there;
    bit = o.bit;
    local = o.local;
    small = o.small;
    since = o.since;
    rests = λ e. o.lawful;
    runs = λ c e. absurd (none-some c e);
  }

  -- where one runs, it is this running processor
  abbrev pub running : (p : ProcessorInPlaceState J R) (c : ClaimedCallback) → p.claimed ≡ Some c → RunningProcessorState J R
  running p c e = record {
    board = p.board;
    seat = p.seat;
    cpu = p.cpu;
    offloadable = p.offloadable;
    limit = p.limit;
    blimit = p.blimit;
    accepted = p.accepted;
    passed = p.passed;
    ran = p.ran;
    claimed = c;
    lists = p.lists;
    here = p.here;
    role = p.role;
    there = p.there;
    bit = p.bit;
    local = p.local;
    small = p.small;
    below = (p.runs c e).below;
    room = (p.runs c e).room;
    since = p.since;
    lawful = (p.runs c e).lawful;
  }

  -- ---- whether a claim of it runs or not

  abbrev pub board_in : ProcessorInPlaceState J R → Board
  board_in p = arc_value p.board

  abbrev pub seat_in : ProcessorInPlaceState J R → Seat
  seat_in p = p.seat

  abbrev pub view_in : ProcessorInPlaceState J R → View
  view_in p = view p.seat

  abbrev pub lists_in : ProcessorInPlaceState J R → Holding J
  lists_in p = holding p.lists

  abbrev pub identity_in : ProcessorInPlaceState J R → Identity J
  identity_in p = record { board = board_in p; seat = p.seat; rear = rear_of p.lists; cpu = p.cpu; offloadable = p.offloadable; limit = p.limit; blimit = p.blimit; kept = p.ran.kept }

  -- The same part of the same open, with the same claim, if one runs.
  pub record SameInPlace (p q : ProcessorInPlaceState J R) : Type 0 where
    pub part : IsSamePart (identity_in p) (identity_in q)
    pub claimed : q.claimed ≡ p.claimed

  abbrev pub accepting_in : ProcessorInPlaceState J R → Accepting J R
  accepting_in p = record { cpu = p.cpu; limit = p.limit; accepted = p.accepted; view = view_in p; lists = p.lists; records = recorded p.ran }

  -- the job was accepted under the old count
  abbrev pub IsAccepted : ℕ → Kind → ℕ → J → Ticket → ProcessorInPlaceState J R → ProcessorInPlaceState J R → Type 0
  IsAccepted moment kind key job t p q = Accepts moment kind key job t (accepting_in p) (accepting_in q)

  -- nothing was accepted, and lists, counts and records are as before
  abbrev pub KeepsAll : ProcessorInPlaceState J R → ProcessorInPlaceState J R → Type 0
  KeepsAll p q = AcceptsNone (accepting_in p) (accepting_in q)

  -- why the job was refused
  abbrev pub IsRefusedAs : J → Refused J → ProcessorInPlaceState J R → ProcessorInPlaceState J R → Type 0
  IsRefusedAs job r p q = Refuses job r (accepting_in p) (accepting_in q)

  -- What a processor in place knows of jobs: what a processor knows, whether a claim of it runs or not.
  pub record IsSoundInPlace (key_of : J → ℕ) (gives : ℕ → R → Type 0) (p : ProcessorInPlaceState J R) : Type 0 where
    pub keyed : AreKeyed key_of (passed_on (lists_in p))
    pub given : Given gives (ran_of p.ran)

  -- what is known of jobs stays known
  abbrev pub KeepsSoundInPlace : (J → ℕ) → (ℕ → R → Type 0) → ProcessorInPlaceState J R → ProcessorInPlaceState J R → Type 0
  KeepsSoundInPlace key_of gives p q = IsSoundInPlace key_of gives p → IsSoundInPlace key_of gives q

  -- A call that only makes steps on the board, whether a claim runs or not: what they come to, by its views; and it is the same
  -- processor, which accepts nothing, holds what it held, and knows of jobs what it knew.
  pub record OnBoard (Does : View → View → Type 0) (key_of : J → ℕ) (gives : ℕ → R → Type 0) (p q : ProcessorInPlaceState J R) : Type 0 where
    pub does : Does (view_in p) (view_in q)
    -- the same part of the same open, with the same claim, if one runs
    pub same : SameInPlace p q
    -- nothing was accepted, and lists, counts and records are as before
    pub keeps : KeepsAll p q
    pub sound : KeepsSoundInPlace key_of gives p q

  -- What a call answers and does, whether a claim runs or not.
  pub record CallsAs (moment : ℕ) (kind : Kind) (key_of : J → ℕ) (gives : ℕ → R → Type 0) (job : J) (result : Result Ticket (Refused J)) (p q : ProcessorInPlaceState J R) : Type 0 where
    pub same : SameInPlace p q
    pub ok : IfOk result (λ t. IsAccepted moment kind (key_of job) job t p q)
    pub err : IfErr result (λ _. KeepsAll p q)
    pub refused : IfErr result (λ r. IsRefusedAs job r p q)
    pub closed : SawShut p.cpu (view_in p) → IsErr result
    pub full : p.accepted ≡ p.limit → IsRefusedByLimit result
    pub sound : KeepsSoundInPlace key_of gives p q

  -- ---- by whether one runs

  -- Of a processor of which no claim runs none runs afterwards, and this is so of what it was and is.
  abbrev pub StaysResting : (ProcessorState J R → ProcessorState J R → Type 0) → ProcessorInPlaceState J R → ProcessorInPlaceState J R → Type 0
  StaysResting Does p q = (e : p.claimed ≡ None) → (f : q.claimed ≡ None) × SameProcessor (resting p e) (resting q f) × Does (resting p e) (resting q f)

  -- A step of a processor of which no claim runs, which accepts nothing: what it does; and what is known of jobs stays known.
  pub record KeepingInPlace (Does : ProcessorState J R → ProcessorState J R → Type 0) (key_of : J → ℕ) (gives : ℕ → R → Type 0) (p q : ProcessorInPlaceState J R) : Type 0 where
    pub does : StaysResting Does p q
    -- it accepted as many as before
    pub count : q.accepted ≡ p.accepted
    pub sound : KeepsSoundInPlace key_of gives p q

  -- Where no claim of it runs, this is so of the processor.
  abbrev pub IfResting : (ProcessorState J R → Type 0) → ProcessorInPlaceState J R → Type 0
  IfResting Is p = (e : p.claimed ≡ None) → Is (resting p e)

  -- Of a processor of which no claim runs one runs afterwards, and this is so of what it was and is.
  abbrev pub StartsRunning : (ProcessorState J R → RunningProcessorState J R → Type 0) → ProcessorInPlaceState J R → ProcessorInPlaceState J R → Type 0
  StartsRunning Does p q = (e : p.claimed ≡ None) → (c : ClaimedCallback) × (f : q.claimed ≡ Some c)
      × SameBegun (resting p e) (running q c f) × Does (resting p e) (running q c f)

  -- Of a processor of which a claim runs none runs afterwards, and this is so of what it was and is.
  abbrev pub EndsRunning : (RunningProcessorState J R → ProcessorState J R → Type 0) → ProcessorInPlaceState J R → ProcessorInPlaceState J R → Type 0
  EndsRunning Does p q = (c : ClaimedCallback) (e : p.claimed ≡ Some c) → (f : q.claimed ≡ None)
      × SameFinished (running p c e) (resting q f) × Does (running p c e) (resting q f)

  -- Where a claim of it runs, this is so of the running processor.
  abbrev pub IfRunning : (RunningProcessorState J R → Type 0) → ProcessorInPlaceState J R → Type 0
  IfRunning Is p = (c : ClaimedCallback) (e : p.claimed ≡ Some c) → Is (running p c e)

  -- A begin answers a job, whose claim runs then; or no claim runs, and why, which is never that so many ran.
  pub record BeginsAs (Runs : J → ProcessorState J R → RunningProcessorState J R → Type 0) (Stops : Stop → ProcessorState J R → ProcessorState J R → Type 0) (key_of : J → ℕ) (gives : ℕ → R → Type 0) (answer : Result J Stop) (p q : ProcessorInPlaceState J R) : Type 0 where
    -- Ok: a claim runs
    pub runs : IfOk answer (λ job. StartsRunning (Runs job) p q)
    -- Err: none does
    pub stops : IfErr answer (λ stop. StaysResting (Stops stop) p q)
    pub counts : IfErr answer (λ stop. stop ≢ Limit)
    -- it accepted as many as before
    pub count : q.accepted ≡ p.accepted
    -- the job that is handed out has the claim's key
    pub keyed : IsSoundInPlace key_of gives p → IfOk answer (λ job. IfRunning (λ r. key_of job ≡ r.claimed.key) q)
    pub sound : KeepsSoundInPlace key_of gives p q
