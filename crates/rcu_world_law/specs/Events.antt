-- The events of the core: where each is enabled, what it does, and which mark it adds (`docs/specification/tables.md`,
-- "Events of the core").
use Rattle.std.specs.Prelude.{ℕ, ◌+◌, ◌%◌, Bool, true, false, ◌||◌, ◌&&◌, ◌==◌, not, nat_lt, if◌then◌else◌, List, [], ◌∷◌, ◌++◌, length, Option, Some, None, slice_set, replicate}
use Rattle.rcu_numbers.specs.declared.sequence.TheConstants.{GREATEST_NUMBER}
use Rattle.rcu_world_law.specs.Lists.{is_none, is_nil, all_of, none_owes, needed_with}
use Rattle.rcu_jobs.specs.Modes.{is_offloaded, is_deoffloading}
use Rattle.rcu_world_law.specs.States.{State, Cpu, cpu_at, has, is_offloadable, is_member, owes, barrier_at, is_open, count_at, with_cpu, with_barrier, with_board, with_mark}
use Rattle.rcu_world_law.specs.Releases.{pace_after_put, releases}
use Rattle.rcu_world_law.specs.Steps.{can_accept, accepts, stamps, with_pace, puts, looks, group_looks, hand_looks, draws, joins, given, gives, fetches, can_claim, claimed, claims, can_finish, finishes, heeds, settles, counts_cpu, sees_cpu}
use Rattle.rcu_world_law.specs.declared.marks.Mark.{Mark}
use Rattle.rcu_world_law.specs.declared.marks.Mark.TheVariants as marks
use Rattle.rcu_world_law.specs.declared.who.Side.{Side}
use Rattle.rcu_world_law.specs.declared.who.Who.{Who}
use Rattle.rcu_world_law.specs.declared.who.Who.TheVariants as who

-- An event, with the key of its job in place of the job
pub data CoreEvent : Type 0 where
  -- a callback is accepted, gets its stamp, and its bypass list is put on the lane
  Accept : (cpu key : ℕ) → CoreEvent
  Stamp : (cpu moment : ℕ) → (lazy : Bool) → CoreEvent
  Put : (cpu : ℕ) → (moment : Option ℕ) → CoreEvent
  -- a quiescent state is reported; a grace period starts, and ends
  Report : (cpu : ℕ) → CoreEvent
  Start : CoreEvent
  End : CoreEvent
  -- a part looks at the number; a grace period is asked for
  Look : (cpu : ℕ) → CoreEvent
  LookGroup : (group : ℕ) → CoreEvent
  LookHand : (cpu : ℕ) → CoreEvent
  Need : (who : Who) → CoreEvent
  -- a batch moves on: from the lane to the group, into its list, onto the done lane, to the hand
  Draw : (cpu : ℕ) → CoreEvent
  Join : (cpu : ℕ) → CoreEvent
  Give : (cpu : ℕ) → CoreEvent
  Fetch : (cpu : ℕ) → CoreEvent
  -- a callback runs, and has run
  Claim : (cpu : ℕ) → (by : Side) → CoreEvent
  Finish : (cpu : ℕ) → (by : Side) → CoreEvent
  -- offloading is asked for or against; the processor heeds it (`poured` says whether there was room to pour, which no
  -- event can know beforehand), and settles in Local
  Ask : (cpu : ℕ) → (on : Bool) → CoreEvent
  Heed : (cpu : ℕ) → (poured : Bool) → CoreEvent
  Settle : (cpu : ℕ) → CoreEvent
  -- a barrier is opened, counts, reads the turns, and passes
  Open : (barrier : ℕ) → CoreEvent
  Count : (barrier cpu : ℕ) → CoreEvent
  Turn : (barrier cpu : ℕ) → CoreEvent
  Pass : (barrier : ℕ) → CoreEvent
  -- a processor is shut; all are urged by a barrier, and one hears it
  Shut : (cpu : ℕ) → CoreEvent
  Urge : CoreEvent
  Hear : (cpu : ℕ) → CoreEvent
  -- a processor goes away, and comes back; the driver reports for one that is away
  Leave : (cpu : ℕ) → CoreEvent
  Return : (cpu : ℕ) → CoreEvent
  Meet : (cpu : ℕ) → CoreEvent

-- some member of group g, of the processors from p on, meets the test
abbrev pub any_member : State → ℕ → (Cpu → Bool) → ℕ → List Cpu → Bool
any_member w g test p [] = false
any_member w g test p (c ∷ cs) = (is_member w g p && test c) || any_member w g test (p + 1) cs

-- the greatest of d and what is wanted for the members of group g
abbrev pub most_wanted : State → ℕ → ℕ → ℕ → List Cpu → ℕ
most_wanted w g d p [] = d
most_wanted w g d p (c ∷ cs) = most_wanted w g (if is_member w g p then needed_with d c.group_wanted else d) (p + 1) cs

-- the processors from p on, each changed by f
abbrev pub each_cpu : (ℕ → Cpu → Cpu) → ℕ → List Cpu → List Cpu
each_cpu f p [] = []
each_cpu f p (c ∷ cs) = f p c ∷ each_cpu f (p + 1) cs

-- "Enabled where". An event on a processor, group, hand or barrier that doesn't exist isn't enabled.
-- (What is given isn't empty exactly where out or the group's done isn't (`something_given` in proofs/Releases.antt);
-- only a processor that was counted is seen (`IsBarrier`).)
-- Of a processor that is away Accept, Report and Look aren't enabled: with these each of its own calls begins.
-- (Who owes a report does so in a grace period that is in progress: `idle` of `IsBoard`.)
abbrev pub is_enabled : State → CoreEvent → Bool
is_enabled w (Accept p key) = has w p && can_accept w.shape.limit (cpu_at w p)
is_enabled w (Stamp p m lazy) = has w p && not (is_none (cpu_at w p).fresh)
is_enabled w (Put p m) = has w p && not (is_nil (cpu_at w p).bypass)
is_enabled w (Report p) = has w p && not (cpu_at w p).away
is_enabled w Start = (w.number % 4 == 0) && (nat_lt w.number w.needed && nat_lt w.number GREATEST_NUMBER)
is_enabled w End = (w.number % 4 == 1) && none_owes w.owing
is_enabled w (Look p) = has w p && not (cpu_at w p).away
is_enabled w (LookGroup g) = any_member w g (λ c. true) 0 w.cpus
is_enabled w (LookHand p) = is_offloadable w p
is_enabled w (Need (who.Cpu p)) = has w p && not (is_none (cpu_at w p).wanted)
is_enabled w (Need (who.Group g)) = any_member w g (λ c. not (is_none c.group_wanted)) 0 w.cpus
is_enabled w (Draw p) = has w p && (not (is_nil (cpu_at w p).lane) && is_nil (cpu_at w p).drawn)
is_enabled w (Join p) = has w p && not (is_nil (cpu_at w p).drawn)
is_enabled w (Give p) = has w p && not (is_nil (given w.shape.blimit (cpu_at w p)))
is_enabled w (Fetch p) = has w p && (is_nil (cpu_at w p).held && not (is_nil (cpu_at w p).done_lane))
is_enabled w (Claim p by) = has w p && can_claim by (cpu_at w p)
is_enabled w (Finish p by) = has w p && can_finish by (cpu_at w p)
is_enabled w (Ask p on) = is_offloadable w p
is_enabled w (Heed p poured) = is_offloadable w p
is_enabled w (Settle p) = has w p && is_deoffloading (cpu_at w p).mode
is_enabled w (Open b) = b == length w.barriers
is_enabled w (Count b p) = is_open w b && (has w p && is_none (count_at (barrier_at w b) p))
is_enabled w (Turn b p) = is_open w b && (has w p && not (is_none (count_at (barrier_at w b) p)))
is_enabled w (Pass b) = is_open w b && all_of (barrier_at w b).seen
is_enabled w (Shut p) = has w p && not (cpu_at w p).shut
is_enabled w Urge = true
is_enabled w (Hear p) = is_offloadable w p
is_enabled w (Leave p) = has w p && (not (cpu_at w p).away && is_nil (cpu_at w p).bypass)
is_enabled w (Return p) = has w p && (cpu_at w p).away
is_enabled w (Meet p) = has w p && ((cpu_at w p).away && owes w p)

-- "What it does", where it is enabled, but for its mark
abbrev pub does : State → CoreEvent → State
does w (Accept p key) = with_cpu w p (accepts key (cpu_at w p))
does w (Stamp p m lazy) = with_cpu w p (stamps w.number m lazy (cpu_at w p))
does w (Put p m) = with_cpu w p (with_pace (pace_after_put m (cpu_at w p)) (puts (cpu_at w p)))
does w (Report p) = with_board w w.number (slice_set w.owing p false)
does w Start = with_board w (w.number + 1) (replicate (length w.owing) true)
does w End = with_board w (w.number + 3) w.owing
does w (Look p) = with_cpu w p (looks w.number (cpu_at w p))
does w (LookGroup g) = record w { cpus = each_cpu (λ p c. if is_member w g p then group_looks w.number c else c) 0 w.cpus }
does w (LookHand p) = with_cpu w p (hand_looks w.number (cpu_at w p))
does w (Need (who.Cpu p)) = with_cpu (record w { needed = needed_with w.needed (cpu_at w p).wanted }) p (record (cpu_at w p) { wanted = None })
does w (Need (who.Group g)) = record w { needed = most_wanted w g w.needed 0 w.cpus; cpus = each_cpu (λ p c. if is_member w g p then record c { group_wanted = None } else c) 0 w.cpus }
does w (Draw p) = with_cpu w p (draws (cpu_at w p))
does w (Join p) = with_cpu w p (joins (cpu_at w p))
does w (Give p) = with_cpu w p (gives w.shape.blimit (cpu_at w p))
does w (Fetch p) = with_cpu w p (fetches (cpu_at w p))
does w (Claim p by) = with_cpu w p (claims by (cpu_at w p))
does w (Finish p by) = with_cpu w p (finishes (cpu_at w p))
does w (Ask p on) = with_cpu w p (record (cpu_at w p) { asked = on })
does w (Heed p poured) = with_cpu w p (heeds poured (cpu_at w p))
does w (Settle p) = with_cpu w p (settles (cpu_at w p))
does w (Open b) = record w { barriers = w.barriers ++ record { passed = false; counts = replicate (length w.cpus) None; seen = replicate (length w.cpus) false } ∷ [] }
does w (Count b p) = with_barrier w b (counts_cpu w p (barrier_at w b))
does w (Turn b p) = with_barrier w b (sees_cpu w p (barrier_at w b))
does w (Pass b) = with_barrier w b (record (barrier_at w b) { passed = true })
does w (Shut p) = with_cpu w p (record (cpu_at w p) { shut = true })
does w Urge = record w { cpus = each_cpu (λ p c. record c { urged = true }) 0 w.cpus }
does w (Hear p) = with_cpu w p (record (cpu_at w p) { urged = false })
does w (Leave p) = with_cpu w p (record (cpu_at w p) { away = true })
does w (Return p) = with_cpu w p (record (cpu_at w p) { away = false })
does w (Meet p) = with_board w w.number (slice_set w.owing p false)

-- "Mark", where it is enabled: at most one
abbrev pub mark_of : State → CoreEvent → Option Mark
mark_of w (Accept p key) = Some (marks.Accepted p key)
mark_of w (Stamp p m lazy) = None
mark_of w (Put p m) = None
mark_of w (Report p) = if owes w p then Some (marks.Reported p) else None
mark_of w Start = None
mark_of w End = None
mark_of w (Look p) = None
mark_of w (LookGroup g) = None
mark_of w (LookHand p) = None
mark_of w (Need n) = None
mark_of w (Draw p) = None
mark_of w (Join p) = None
mark_of w (Give p) = None
mark_of w (Fetch p) = None
mark_of w (Claim p by) = Some (marks.Ran p (claimed by (cpu_at w p)).key)
mark_of w (Finish p by) = None
mark_of w (Ask p on) = None
mark_of w (Heed p poured) = None
mark_of w (Settle p) = None
mark_of w (Open b) = Some (marks.Opened b)
mark_of w (Count b p) = None
mark_of w (Turn b p) = None
mark_of w (Pass b) = Some (marks.Passed b)
mark_of w (Shut p) = Some (marks.Shut p)
mark_of w Urge = None
mark_of w (Hear p) = None
mark_of w (Leave p) = None
mark_of w (Return p) = None
mark_of w (Meet p) = Some (marks.Reported p)

-- The answer is `Due` in place of `Done` where a stamped callback releases its bypass list
abbrev pub answers_due : State → CoreEvent → Bool
answers_due w (Stamp p m lazy) = is_offloaded (cpu_at w p).mode && releases w.shape.qhimark lazy m (cpu_at w p)
answers_due w e = false

-- an enabled event: the history afterwards is the one before, followed by its mark (`docs/specification/definitions.md`, "Event")
abbrev pub after : State → CoreEvent → State
after w m = with_mark (does w m) (mark_of w m)

-- an event that isn't enabled changes nothing
abbrev pub happens : State → CoreEvent → State
happens w m = if is_enabled w m then after w m else w

-- a whole schedule
abbrev pub run : List CoreEvent → State → State
run [] w = w
run (m ∷ ms) w = run ms (happens w m)
