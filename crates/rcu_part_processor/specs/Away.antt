-- What contracts see of a processor that is away, and what leaving and coming back do: docs/specification/tables.md, "Words of the board".
use Rattle.std.specs.Prelude.{◌≡◌, ◌≢◌, ℕ, ◌+◌, ◌*◌, ◌≤◌, [], ◌++◌, if◌then◌else◌}
use Rattle.std.specs.Arc.{arc_value}
use Rattle.rcu_board.specs.Plays.{leave_own, stepped_own}
use Rattle.rcu_board.specs.Seats.{IsAway, view}
use Rattle.rcu_board.specs.Words.{reports_word}
use Rattle.rcu_board.specs.declared.board.Board.{Board}
use Rattle.rcu_board.specs.declared.view.View.{View}
use Rattle.rcu_jobs.specs.Records.{Given}
use Rattle.rcu_lanes.specs.declared.ends.TheConstants.{FIRST_SLOTS}
use Rattle.rcu_lists.specs.Release.{is_any}
use Rattle.rcu_part_lists.specs.Outgoing.{sent, sent_back}
use Rattle.rcu_part_lists.specs.ProcessorLists.{Holding, holding, passed_on, put_by, rear_of}
use Rattle.rcu_part_steps.specs.Places.{AreKeyed}
use Rattle.rcu_part_order.specs.Recorded.{Recorded, recorded}
use Rattle.rcu_part_processor.specs.Processors.{SameProcessor, lists_of, records_of, view_of}
use Rattle.rcu_part_processor.specs.Running.{Identity, IsSamePart, identity}
use Rattle.rcu_part_processor.specs.declared.away.AwayState.{AwayState}
use Rattle.rcu_part_processor.specs.declared.processor.ProcessorState.{ProcessorState}

module _ {J R : Type 0} where
  abbrev pub away_board : AwayState J R → Board
  away_board p = arc_value p.board

  abbrev pub away_view : AwayState J R → View
  away_view p = view p.seat

  abbrev pub away_lists : AwayState J R → Holding J
  away_lists p = holding p.lists

  abbrev pub away_records : AwayState J R → Recorded R
  away_records p = recorded p.ran

  abbrev pub away_identity : AwayState J R → Identity J
  away_identity p = record { board = away_board p; seat = p.seat; rear = rear_of p.lists; cpu = p.cpu; offloadable = p.offloadable; limit = p.limit; blimit = p.blimit; kept = p.ran.kept }

  -- the same part of the same open, as it leaves and as it comes back
  abbrev pub SameLeft : ProcessorState J R → AwayState J R → Type 0
  SameLeft p q = IsSamePart (identity p) (away_identity q)

  abbrev pub SameReturned : AwayState J R → ProcessorState J R → Type 0
  SameReturned p q = IsSamePart (away_identity p) (identity q)

  -- It left, by one step on its report word, which says so.
  pub record Leaves (p : ProcessorState J R) (q : AwayState J R) : Type 0 where
    pub step : away_view q ≡ stepped_own leave_own (reports_word p.cpu) (2 * p.passed + 1) (view_of p)
    pub away : IsAway (away_view q)

  -- What it accepted, what it ran and its own list stay; what its bypass list held is on the lane, in order, as one batch.
  pub record KeepsLeaving (p : ProcessorState J R) (q : AwayState J R) : Type 0 where
    pub count : q.accepted ≡ p.accepted
    pub passed : q.passed ≡ p.passed
    pub records : away_records q ≡ records_of p
    pub put : put_by (away_lists q) ≡ put_by (lists_of p) ++ (lists_of p).outgoing.bypass
    pub batch : (away_lists q).outgoing ≡ (if is_any (lists_of p).outgoing.bypass then sent (lists_of p).outgoing else (lists_of p).outgoing)
    pub others : away_lists q ≡ record (lists_of p) { outgoing = (away_lists q).outgoing }

  -- It is still here: its lane has no room for what the bypass list holds, which stays.
  pub record StaysHere (p q : ProcessorState J R) : Type 0 where
    pub same : SameProcessor p q
    pub view : view_of q ≡ view_of p
    pub count : q.accepted ≡ p.accepted
    pub records : records_of q ≡ records_of p
    pub held : (lists_of p).outgoing.bypass ≢ []
    pub full : FIRST_SLOTS ≤ (lists_of p).outgoing.batches
    pub lists : lists_of q ≡ record (lists_of p) { outgoing = sent_back (lists_of p).outgoing }

  -- As it comes back all that it accepted, ran and holds stays.
  pub record KeepsReturning (p : AwayState J R) (q : ProcessorState J R) : Type 0 where
    pub count : q.accepted ≡ p.accepted
    pub records : records_of q ≡ away_records p
    pub lists : q.lists ≡ p.lists

  -- What a processor knows of jobs while it is away: what it knows between its calls.
  pub record IsSoundAway (key_of : J → ℕ) (gives : ℕ → R → Type 0) (p : AwayState J R) : Type 0 where
    pub keyed : AreKeyed key_of (passed_on (away_lists p))
    pub given : Given gives (away_records p).all
