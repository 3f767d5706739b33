-- The state of the core, as plain data (`docs/specification/tables.md`, "Words of the board" and "Places of a callback").
use Rattle.std.specs.Prelude.{ℕ, ◌/◌, Bool, false, ◌&&◌, ◌==◌, not, nat_lt, if◌then◌else◌, List, [], ◌∷◌, ◌++◌, length, Option, Some, None, slice_set, slice_index_or, replicate}
use Rattle.std.proofs.Common.{zero, suc}
use Rattle.rcu_world_law.specs.Calls.{Call}
use Rattle.rcu_world_law.specs.LabelledLists.{Labelled}
use Rattle.rcu_world_law.specs.declared.marks.Mark.{Mark}
use Rattle.rcu_jobs.specs.declared.modes.Mode.{Mode}
use Rattle.rcu_jobs.specs.declared.modes.Mode.TheVariants.{Local, Offloaded}
use Rattle.rcu_world_law.specs.declared.who.Side.{Side}

-- A record without its receipt. `ready` is the number by which the callback might run: a sight of the part that claimed it
pub record Run : Type 0 where
  pub call : Call
  pub ready : ℕ

abbrev pub run_of : ℕ → ℕ → ℕ → ℕ → Run
run_of number key stamp ready = record { call = record { number = number; key = key; stamp = stamp }; ready = ready }

-- A processor, with its hand and what its group holds for it
pub record Cpu : Type 0 where
  -- where its callbacks are, from the last place to the first
  -- accepted, not yet stamped
  pub fresh : Option Call
  -- the own list: done, wait, next-ready, next
  pub own : List Labelled
  -- the bypass list
  pub bypass : List Call
  -- the lane, a list of batches
  pub lane : List (List Call)
  -- the group's drawn batch that waits for room
  pub drawn : List Call
  -- the group's list: done, wait, next-ready, next
  pub joined : List Labelled
  -- the group's batch that waits for the done lane
  pub out : List Call
  pub done_lane : List (List Call)
  -- the hand's held batch
  pub held : List Call
  -- what ran
  pub runs : List Run
  -- the words: A_p is twice the count, plus 1 once shut; T_p is the turn; S_p is asked
  pub shut : Bool
  pub count : ℕ
  pub turn : ℕ
  pub asked : Bool
  -- whose claim runs
  pub running : Option Side
  -- the greatest number that the processor's look showed, and the hand's
  pub sight : ℕ
  pub hand_sight : ℕ
  -- the number that the last accelerate of the own list wants and that isn't asked for yet, and of the group's list
  pub wanted : Option ℕ
  pub group_wanted : Option ℕ
  pub mode : Mode
  -- the count accepted at the entry to Deoffloading
  pub left : ℕ
  -- of the bypass list: the last moment, the direct count, the kept moment (of the first lazy callback in it), and
  -- whether it holds a plain callback
  pub moment : Option ℕ
  pub direct : ℕ
  pub kept_moment : Option ℕ
  pub plain : Bool
  -- the bit of the urge word
  pub urged : Bool
  -- it has left, and not come back (`docs/specification/rules.md`, "Processors away")
  pub away : Bool

-- A barrier: the count kept of each processor, and which processors were seen to have reached theirs
pub record Barrier : Type 0 where
  pub passed : Bool
  pub counts : List (Option ℕ)
  pub seen : List Bool

-- What is set at the beginning (`docs/specification/rules.md`, "Limits")
pub record Shape : Type 0 where
  pub offloadable : List Bool
  pub stride : ℕ
  pub blimit : ℕ
  pub qhimark : ℕ
  pub limit : ℕ

-- The core: the sequence number, the mask (whose report is owed), the greatest number asked for, and the rest
pub record State : Type 0 where
  pub shape : Shape
  pub number : ℕ
  pub owing : List Bool
  pub needed : ℕ
  pub cpus : List Cpu
  pub barriers : List Barrier
  pub history : List Mark

abbrev pub empty_cpu : Cpu
empty_cpu = record {
  fresh = None;
  own = [];
  bypass = [];
  lane = [];
  drawn = [];
  joined = [];
  out = [];
  done_lane = [];
  held = [];
  runs = [];
  shut = false;
  count = 0;
  turn = 0;
  asked = false;
  running = None;
  sight = 0;
  hand_sight = 0;
  wanted = None;
  group_wanted = None;
  mode = Local;
  left = 0;
  moment = None;
  direct = 0;
  kept_moment = None;
  plain = false;
  urged = false;
  away = false;
}

abbrev pub no_barrier : Barrier
no_barrier = record { passed = false; counts = []; seen = [] }

-- What is there.

abbrev pub cpu_at : State → ℕ → Cpu
cpu_at w p = slice_index_or w.cpus p empty_cpu

abbrev pub has : State → ℕ → Bool
has w p = nat_lt p (length w.cpus)

abbrev pub is_offloadable : State → ℕ → Bool
is_offloadable w p = has w p && slice_index_or w.shape.offloadable p false

-- the members of a group are the offloadable processors of it; the group of p is `p / stride`
-- (`docs/specification/rules.md`, "Groups")
abbrev pub is_member : State → ℕ → ℕ → Bool
is_member w g p = is_offloadable w p && (p / w.shape.stride == g)

abbrev pub owes : State → ℕ → Bool
owes w q = slice_index_or w.owing q false

abbrev pub barrier_at : State → ℕ → Barrier
barrier_at w b = slice_index_or w.barriers b no_barrier

-- a barrier that has passed is gone
abbrev pub is_open : State → ℕ → Bool
is_open w b = nat_lt b (length w.barriers) && not (barrier_at w b).passed

abbrev pub count_at : Barrier → ℕ → Option ℕ
count_at b p = slice_index_or b.counts p None

-- The state with one part changed.

abbrev pub with_cpu : State → ℕ → Cpu → State
with_cpu w p c = record w { cpus = slice_set w.cpus p c }

abbrev pub with_barrier : State → ℕ → Barrier → State
with_barrier w b v = record w { barriers = slice_set w.barriers b v }

abbrev pub with_board : State → ℕ → List Bool → State
with_board w s owing = record w { number = s; owing = owing }

abbrev pub added : List Mark → Option Mark → List Mark
added h None = h
added h (Some m) = h ++ m ∷ []

abbrev pub with_mark : State → Option Mark → State
with_mark w m = record w { history = added w.history m }

-- The beginning: offloadable processors start Offloaded, all others are Local (`docs/specification/rules.md`, "Groups").

abbrev pub opening_cpu : Bool → Cpu
opening_cpu b = record empty_cpu { mode = if b then Offloaded else Local; asked = b }

abbrev pub opening_cpus : ℕ → List Bool → List Cpu
opening_cpus n [] = replicate n empty_cpu
opening_cpus zero (b ∷ bs) = []
opening_cpus (suc n) (b ∷ bs) = opening_cpu b ∷ opening_cpus n bs

abbrev pub opening : ℕ → Shape → State
opening n shape = record { shape = shape; number = 0; owing = replicate n false; needed = 0; cpus = opening_cpus n shape.offloadable; barriers = []; history = [] }
