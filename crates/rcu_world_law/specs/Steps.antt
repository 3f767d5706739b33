-- What the events do to one processor or barrier (`docs/specification/tables.md`, "Events of the core", the columns
-- "Enabled where" and "What it does").
use Rattle.std.specs.Prelude.{ℕ, ◌+◌, ◌*◌, ◌/◌, Bool, true, false, ◌||◌, ◌&&◌, ◌==◌, not, nat_lt, nat_le, min, if◌then◌else◌, List, [], ◌∷◌, ◌++◌, map, take, drop, Option, Some, None, slice_set, slice_index_or}
use Rattle.rcu_numbers.specs.Numbers.{snap_of}
use Rattle.rcu_world_law.specs.Lists.{is_none, is_nil, first_batch, tail, value_or}
use Rattle.rcu_world_law.specs.Calls.{Call}
use Rattle.rcu_world_law.specs.LabelledLists.{Labelled, is_done, bare, call_of, looked, wanted_by_look, done_count}
use Rattle.rcu_jobs.specs.Modes.{is_offloaded}
use Rattle.rcu_world_law.specs.States.{State, Cpu, Barrier, cpu_at, count_at}
use Rattle.rcu_world_law.specs.Releases.{Pace, pace_after_stamp}
use Rattle.rcu_jobs.specs.declared.modes.Mode.{Mode}
use Rattle.rcu_jobs.specs.declared.modes.Mode.TheVariants.{Local, Offloading, Offloaded, Deoffloading}
use Rattle.rcu_world_law.specs.declared.who.Side.{Side}
use Rattle.rcu_world_law.specs.declared.who.Side.TheVariants as sides

-- Accept: where it isn't away nor shut, the count is below the limit and fresh is empty, the job gets the number count, the
-- count rises, the job is fresh

abbrev pub can_accept : ℕ → Cpu → Bool
can_accept limit c = not c.away && (not c.shut && (nat_lt c.count limit && is_none c.fresh))

abbrev pub accepts : ℕ → Cpu → Cpu
accepts key c = record c { count = c.count + 1; fresh = Some (record { number = c.count; key = key; stamp = 0 }) }

-- Stamp: the stamp is the number; the callback goes to the own list's next, or in Offloaded to the bypass list

abbrev pub with_stamp : ℕ → Call → Call
with_stamp s f = record f { stamp = s }

abbrev pub fresh_calls : ℕ → Option Call → List Call
fresh_calls s None = []
fresh_calls s (Some f) = with_stamp s f ∷ []

abbrev pub stamps_into : Bool → ℕ → Cpu → Cpu
stamps_into true s c = record c { fresh = None; bypass = c.bypass ++ fresh_calls s c.fresh }
stamps_into false s c = record c { fresh = None; own = c.own ++ map bare (fresh_calls s c.fresh) }

-- with what the bypass list now remembers
abbrev pub with_pace : Pace → Cpu → Cpu
with_pace t c = record c { moment = t.moment; direct = t.direct; kept_moment = t.kept_moment; plain = t.plain }

abbrev pub stamps : ℕ → ℕ → Bool → Cpu → Cpu
stamps s m lazy c = if is_offloaded c.mode then with_pace (pace_after_stamp lazy m c) (stamps_into true s c) else stamps_into false s c

-- Put: the whole bypass list becomes one batch at the end of the lane

abbrev pub puts : Cpu → Cpu
puts c = record c { lane = c.lane ++ c.bypass ∷ []; bypass = [] }

-- Look: sight is the number; the own list is advanced and accelerated

abbrev pub looks : ℕ → Cpu → Cpu
looks s c = record c { own = looked s c.own; sight = s; wanted = wanted_by_look s c.own }

-- LookGroup, at one member: its list is advanced and accelerated. (The group's own sight is read by no event, so the
-- state has none.)
abbrev pub group_looks : ℕ → Cpu → Cpu
group_looks s c = record c { joined = looked s c.joined; group_wanted = wanted_by_look s c.joined }

-- LookHand: the hand's sight is the number
abbrev pub hand_looks : ℕ → Cpu → Cpu
hand_looks s c = record c { hand_sight = s }

-- Draw: the first batch of the lane is drawn
abbrev pub draws : Cpu → Cpu
draws c = record c { drawn = first_batch c.lane; lane = tail c.lane }

-- Join: the drawn batch joins the end of the group's next
abbrev pub joins : Cpu → Cpu
joins c = record c { joined = c.joined ++ map bare c.drawn; drawn = [] }

-- Give: if out is empty, up to `blimit` done callbacks become out; out goes to the end of the done lane

abbrev pub given_count : ℕ → Cpu → ℕ
given_count blimit c = if is_nil c.out then min blimit (done_count c.joined) else 0

abbrev pub given : ℕ → Cpu → List Call
given blimit c = c.out ++ map call_of (take (given_count blimit c) c.joined)

abbrev pub gives : ℕ → Cpu → Cpu
gives blimit c = record c { done_lane = c.done_lane ++ given blimit c ∷ []; out = []; joined = drop (given_count blimit c) c.joined }

-- Fetch: the first batch of the done lane is held
abbrev pub fetches : Cpu → Cpu
fetches c = record c { held = first_batch c.done_lane; done_lane = tail c.done_lane }

-- Claim: the turn is 2k, and the own done begins with number k, or the hand's batch does and its wait is over by the
-- hand's sight.
-- The callback is taken out and runs, the turn is 2k+1, and the record's ready is the sight of the side that claims

abbrev pub no_call : Call
no_call = record { number = 0; key = 0; stamp = 0 }

abbrev pub front : List Call → Call
front [] = no_call
front (c ∷ cs) = c

abbrev pub can_claim_own : List Labelled → ℕ → Bool
can_claim_own [] turn = false
can_claim_own (w ∷ ws) turn = is_done w.label && (turn == 2 * w.call.number)

abbrev pub can_claim_held : ℕ → List Call → ℕ → Bool
can_claim_held sight [] turn = false
can_claim_held sight (c ∷ cs) turn = nat_le (snap_of c.stamp) sight && (turn == 2 * c.number)

abbrev pub can_claim : Side → Cpu → Bool
can_claim sides.Local c = can_claim_own c.own c.turn
can_claim sides.Hand c = can_claim_held c.hand_sight c.held c.turn

abbrev pub claimed : Side → Cpu → Call
claimed sides.Local c = front (map call_of c.own)
claimed sides.Hand c = front c.held

abbrev pub claims : Side → Cpu → Cpu
claims sides.Local c = record c { own = tail c.own; turn = c.turn + 1; running = Some sides.Local; runs = c.runs ++ record { call = front (map call_of c.own); ready = c.sight } ∷ [] }
claims sides.Hand c = record c { held = tail c.held; turn = c.turn + 1; running = Some sides.Hand; runs = c.runs ++ record { call = front c.held; ready = c.hand_sight } ∷ [] }

-- Finish: where that side's claim runs, the turn is 2k+2

abbrev pub is_side : Side → Option Side → Bool
is_side s None = false
is_side sides.Local (Some sides.Local) = true
is_side sides.Local (Some sides.Hand) = false
is_side sides.Hand (Some sides.Local) = false
is_side sides.Hand (Some sides.Hand) = true

abbrev pub can_finish : Side → Cpu → Bool
can_finish s c = is_side s c.running

abbrev pub finishes : Cpu → Cpu
finishes c = record c { turn = c.turn + 1; running = None }

-- Heed: the mode changes by the rules of modes, pouring included (`docs/specification/rules.md`, "Modes"). `poured` says
-- whether there was room to pour

-- the whole own list, oldest first, goes to the end of the bypass list, where its callbacks count as plain
abbrev pub pours : Cpu → Cpu
pours c = record c { own = []; bypass = c.bypass ++ map call_of c.own; plain = not (is_nil c.own) || c.plain; mode = Offloaded }

-- at each entry to Deoffloading, left is the count accepted so far
abbrev pub leaves : Cpu → Cpu
leaves c = record c { mode = Deoffloading; left = c.count }

abbrev pub heeds_mode : (asked poured : Bool) → Mode → Cpu → Cpu
heeds_mode true true Local c = pours c
heeds_mode true true Offloading c = pours c
heeds_mode true true Deoffloading c = pours c
heeds_mode true false Local c = record c { mode = Offloading }
heeds_mode true false Offloading c = c
heeds_mode true false Deoffloading c = record c { mode = Offloading }
heeds_mode true poured Offloaded c = c
heeds_mode false poured Local c = c
heeds_mode false poured Offloading c = leaves c
heeds_mode false poured Offloaded c = if is_nil c.bypass then leaves c else c
heeds_mode false poured Deoffloading c = c

abbrev pub heeds : Bool → Cpu → Cpu
heeds poured c = heeds_mode c.asked poured c.mode c

-- Settle: in Deoffloading, Local where the turn is at least 2 * left
abbrev pub settles : Cpu → Cpu
settles c = record c { mode = if nat_le c.left (c.turn / 2) then Local else c.mode }

-- Count: the count of the processor is kept
abbrev pub counts_cpu : State → ℕ → Barrier → Barrier
counts_cpu w p b = record b { counts = slice_set b.counts p (Some (cpu_at w p).count) }

-- Turn: the processor is seen, where the turn is at least twice the kept count
abbrev pub sees_cpu : State → ℕ → Barrier → Barrier
sees_cpu w p b = record b { seen = slice_set b.seen p (slice_index_or b.seen p false || nat_le (2 * value_or (count_at b p)) (cpu_at w p).turn) }
