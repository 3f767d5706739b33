-- What contracts see of a processor of which a claim runs.
use Rattle.std.specs.Prelude.{◌≡◌, ℕ, Bool, Result, IfOk, IfErr, IsErr}
use Rattle.std.specs.Arc.{arc_value}
use Rattle.rcu_board.specs.Seats.{SawShut, view}
use Rattle.rcu_board.specs.declared.board.Board.{Board}
use Rattle.rcu_board.specs.declared.board.Seat.{Seat}
use Rattle.rcu_board.specs.declared.view.View.{View}
use Rattle.rcu_board.specs.Frames.{SamePart}
use Rattle.rcu_part_lists.specs.ProcessorLists.{Holding, holding, passed_on, rear_of}
use Rattle.rcu_part_lists.specs.declared.limits.LaneLimits.{LaneLimits}
use Rattle.rcu_jobs.specs.Records.{Given}
use Rattle.rcu_jobs.specs.declared.answers.Refused.{Refused}
use Rattle.rcu_jobs.specs.declared.answers.Ticket.{Ticket}
use Rattle.rcu_lanes.specs.Ends.{SameRear}
use Rattle.rcu_lanes.specs.declared.ends.Rear.{Rear}
use Rattle.rcu_lists.specs.declared.pace.Kind.{Kind}
use Rattle.rcu_lists.specs.declared.parcel.Parcel.{Parcel}
use Rattle.rcu_part_order.specs.Recorded.{Recorded, recorded}
use Rattle.rcu_part_order.specs.declared.recorded.Kept.{Kept}
use Rattle.rcu_part_steps.specs.Places.{AreKeyed}
use Rattle.rcu_part_processor.specs.Accepting.{Accepting, Accepts, AcceptsNone, IsRefusedByLimit, Refuses}
use Rattle.rcu_part_processor.specs.Processors.{board_of}
use Rattle.rcu_part_processor.specs.declared.processor.ProcessorState.{ProcessorState}
use Rattle.rcu_part_processor.specs.declared.running_processor.RunningProcessorState.{RunningProcessorState}

-- Which part of which open it is: its seat, its lane, its number, its kind, its limits, and what it keeps.
pub record Identity (J : Type 0) : Type 0 where
  pub board : Board
  pub seat : Seat
  pub rear : Rear (Parcel J) LaneLimits
  pub cpu : ℕ
  pub offloadable : Bool
  pub limit : ℕ
  pub blimit : ℕ
  pub kept : Kept

-- the same part of the same open
pub record IsSamePart {J : Type 0} (x y : Identity J) : Type 0 where
  pub part : SamePart x.board y.board x.seat y.seat
  pub lane : SameRear x.rear y.rear
  pub cpu : y.cpu ≡ x.cpu
  pub offloadable : y.offloadable ≡ x.offloadable
  pub limit : y.limit ≡ x.limit
  pub blimit : y.blimit ≡ x.blimit
  pub kept : y.kept ≡ x.kept

module _ {J R : Type 0} where
  abbrev pub running_board : RunningProcessorState J R → Board
  running_board p = arc_value p.board

  abbrev pub running_view : RunningProcessorState J R → View
  running_view p = view p.seat

  abbrev pub running_lists : RunningProcessorState J R → Holding J
  running_lists p = holding p.lists

  abbrev pub running_records : RunningProcessorState J R → Recorded R
  running_records p = recorded p.ran

  abbrev pub identity : ProcessorState J R → Identity J
  identity p = record { board = board_of p; seat = p.seat; rear = rear_of p.lists; cpu = p.cpu; offloadable = p.offloadable; limit = p.limit; blimit = p.blimit; kept = p.ran.kept }

  abbrev pub running_identity : RunningProcessorState J R → Identity J
  running_identity p = record { board = running_board p; seat = p.seat; rear = rear_of p.lists; cpu = p.cpu; offloadable = p.offloadable; limit = p.limit; blimit = p.blimit; kept = p.ran.kept }

  -- the same part of the same open, as a claim of it begins, while it runs, and as it ends
  abbrev pub SameBegun : ProcessorState J R → RunningProcessorState J R → Type 0
  SameBegun p q = IsSamePart (identity p) (running_identity q)

  abbrev pub SameRunning : RunningProcessorState J R → RunningProcessorState J R → Type 0
  SameRunning p q = IsSamePart (running_identity p) (running_identity q)

  abbrev pub SameFinished : RunningProcessorState J R → ProcessorState J R → Type 0
  SameFinished p q = IsSamePart (running_identity p) (identity q)

  abbrev pub running_accepting : RunningProcessorState J R → Accepting J R
  running_accepting p = record { cpu = p.cpu; limit = p.limit; accepted = p.accepted; view = running_view p; lists = p.lists; records = running_records p }

  -- the job was accepted under the old count
  abbrev pub IsAccepted : ℕ → Kind → ℕ → J → Ticket → RunningProcessorState J R → RunningProcessorState J R → Type 0
  IsAccepted moment kind key job t p q = Accepts moment kind key job t (running_accepting p) (running_accepting q)

  -- nothing was accepted, and lists and counts are as before
  abbrev pub KeepsAll : RunningProcessorState J R → RunningProcessorState J R → Type 0
  KeepsAll p q = AcceptsNone (running_accepting p) (running_accepting q)

  -- why the job was refused
  abbrev pub IsRefusedAs : J → Refused J → RunningProcessorState J R → RunningProcessorState J R → Type 0
  IsRefusedAs job r p q = Refuses job r (running_accepting p) (running_accepting q)

  -- What a processor knows of jobs while a claim of it runs: what it knows between its calls.
  pub record IsSoundRunning (key_of : J → ℕ) (gives : ℕ → R → Type 0) (p : RunningProcessorState J R) : Type 0 where
    pub keyed : AreKeyed key_of (passed_on (running_lists p))
    pub given : Given gives (running_records p).all

  -- what is known of jobs stays known
  abbrev pub KeepsSoundRunning : (J → ℕ) → (ℕ → R → Type 0) → RunningProcessorState J R → RunningProcessorState J R → Type 0
  KeepsSoundRunning key_of gives old new = IsSoundRunning key_of gives old → IsSoundRunning key_of gives new

  -- What a call answers and does while a claim runs: what it does between claims, and the claim stays.
  pub record CallsAs (moment : ℕ) (kind : Kind) (key_of : J → ℕ) (gives : ℕ → R → Type 0) (job : J) (result : Result Ticket (Refused J)) (p q : RunningProcessorState J R) : Type 0 where
    pub same : SameRunning p q
    pub ok : IfOk result (λ t. IsAccepted moment kind (key_of job) job t p q)
    pub err : IfErr result (λ _. KeepsAll p q)
    pub refused : IfErr result (λ r. IsRefusedAs job r p q)
    pub closed : SawShut p.cpu (running_view p) → IsErr result
    pub full : p.accepted ≡ p.limit → IsRefusedByLimit result
    pub claimed : q.claimed ≡ p.claimed
    pub sound : KeepsSoundRunning key_of gives p q
