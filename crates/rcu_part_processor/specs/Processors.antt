-- What contracts see of a processor's part.
use Rattle.std.specs.Prelude.{◌≡◌, ℕ, List}
use Rattle.std.specs.Arc.{arc_value}
use Rattle.rcu_board.specs.Seats.{accepted_of, view}
use Rattle.rcu_board.specs.declared.board.Board.{Board}
use Rattle.rcu_board.specs.declared.board.Seat.{Seat}
use Rattle.rcu_board.specs.declared.view.View.{View}
use Rattle.rcu_board.specs.Frames.{SamePart}
use Rattle.rcu_part_lists.specs.ProcessorLists.{Holding, holding, passed_on, rear_of}
use Rattle.rcu_jobs.specs.Records.{Given}
use Rattle.rcu_jobs.specs.declared.callback.Record.{Record}
use Rattle.rcu_lanes.specs.Ends.{SameRear}
use Rattle.rcu_part_order.specs.Recorded.{Recorded, and_ran, recorded}
use Rattle.rcu_part_steps.specs.Places.{AreKeyed}
use Rattle.rcu_part_processor.specs.declared.processor.ProcessorState.{ProcessorState}

module _ {J R : Type 0} where
  abbrev pub board_of : ProcessorState J R → Board
  board_of p = arc_value p.board

  abbrev pub seat_of : ProcessorState J R → Seat
  seat_of p = p.seat

  abbrev pub view_of : ProcessorState J R → View
  view_of p = view p.seat

  abbrev pub lists_of : ProcessorState J R → Holding J
  lists_of p = holding p.lists

  -- what it ran itself
  abbrev pub records_of : ProcessorState J R → Recorded R
  records_of p = recorded p.ran

  -- the same part of the same open: its seat, its lane, its number, its kind, its limits, and what it keeps
  pub record SameProcessor (p q : ProcessorState J R) : Type 0 where
    pub part : SamePart (board_of p) (board_of q) p.seat q.seat
    pub lane : SameRear (rear_of p.lists) (rear_of q.lists)
    pub cpu : q.cpu ≡ p.cpu
    pub offloadable : q.offloadable ≡ p.offloadable
    pub limit : q.limit ≡ p.limit
    pub blimit : q.blimit ≡ p.blimit
    pub kept : q.ran.kept ≡ p.ran.kept

  -- the records that there were stand before all others
  abbrev pub AddsRecords : ProcessorState J R → ProcessorState J R → Type 0
  AddsRecords p q = (more : List (Record R)) × (records_of q ≡ and_ran more (records_of p))

  -- what was accepted stays, each with its key and its stamp
  abbrev pub AcceptedStays : ProcessorState J R → ProcessorState J R → Type 0
  AcceptedStays p q = accepted_of (view_of q) ≡ accepted_of (view_of p)

  -- What a processor knows of jobs: each callback that it put on its lane or holds has its job's key, and each receipt is as
  -- the relation wants it for its record's key.
  pub record IsSound (key_of : J → ℕ) (gives : ℕ → R → Type 0) (p : ProcessorState J R) : Type 0 where
    pub keyed : AreKeyed key_of (passed_on (lists_of p))
    pub given : Given gives (records_of p).all

  -- what is known of jobs stays known
  abbrev pub KeepsSound : (J → ℕ) → (ℕ → R → Type 0) → ProcessorState J R → ProcessorState J R → Type 0
  KeepsSound key_of gives old new = IsSound key_of gives old → IsSound key_of gives new

  -- A step that accepts nothing: what it does; and it is the same processor, which knows of jobs what it knew.
  pub record Keeping (Does : ProcessorState J R → ProcessorState J R → Type 0) (key_of : J → ℕ) (gives : ℕ → R → Type 0) (p q : ProcessorState J R) : Type 0 where
    pub does : Does p q
    -- the same part of the same open
    pub same : SameProcessor p q
    -- it accepted as many as before
    pub count : q.accepted ≡ p.accepted
    -- what is known of jobs stays known
    pub sound : KeepsSound key_of gives p q
