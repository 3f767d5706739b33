-- What contracts see of the ends of a lane, in the words of the lane law: docs/specification/definitions.md, "The running parts: laws".
-- Which lane an end is of is told by relations alone.
use Rattle.std.specs.Prelude.{◌≡◌, List, []}
use Rattle.crossbeam_deque.specs.Handles.{view, worker_deque, stealer_deque, worker_view}
use Rattle.rcu_lanes.specs.Lane.{rest_of}
use Rattle.rcu_lanes.specs.declared.ends.Rear.{Rear}
use Rattle.rcu_lanes.specs.declared.ends.Front.{Front}
use Rattle.rcu_lanes.specs.declared.ends.Rest.{Rest}

module _ {T L : Type 0} where
  -- the two are the ends of one lane
  abbrev pub SameLane : Front T L → Rear T L → Type 0
  SameLane front rear = stealer_deque front.thief ≡ worker_deque rear.owner

  -- each end stays with its lane
  abbrev pub SameRear : Rear T L → Rear T L → Type 0
  SameRear old new = worker_deque new.owner ≡ worker_deque old.owner

  abbrev pub SameFront : Front T L → Front T L → Type 0
  SameFront old new = stealer_deque new.thief ≡ stealer_deque old.thief

  -- all items put so far, first to last
  abbrev pub items_put : Rear T L → List T
  items_put rear = (worker_view rear.owner).put

  -- all items drawn so far, first to last
  abbrev pub items_drawn : Front T L → List T
  items_drawn front = (view front.pass).drawn

  -- the items that the lane still holds, first to last
  abbrev pub items_left : Rest T L → List T
  items_left rest = rest_of (worker_view rest.owner)

-- the two ends of a lane with nothing on it
pub record IsNewLane {T L : Type 0} (front : Front T L) (rear : Rear T L) : Type 0 where
  pub one_lane : SameLane front rear
  pub none_put : items_put rear ≡ []
  pub none_drawn : items_drawn front ≡ []
