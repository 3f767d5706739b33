-- What each command does, and the line of its answer: docs/specification/tables.md, "Script commands and what they print". The events of a call are those of docs/specification/rules.md, "On the core".
use Rattle.std.specs.Prelude.{ℕ, zero, suc, ◌≡◌, ◌≤◌, ◌<◌, Bool, true, false, not, if◌then◌else◌, nat_le, List, [], ◌∷◌, ◌++◌, length, take, Option, None, Some, Ok, Err, ◌⊎◌, string_bytes}
use Rattle.rcu_world_law.specs.declared.marks.Mark.TheVariants as marks
use Rattle.rcu_world_law.specs.Events.{is_enabled}
use Rattle.rcu_world_law.specs.Events.CoreEvent.{Ask, LookGroup, Put, Report, Return}
use Rattle.rcu_world_law.specs.States.{State, cpu_at, has, is_offloadable, owes}
use Rattle.rcu_jobs.specs.declared.SwitchFault.{SwitchFault}
use Rattle.rcu_jobs.specs.Refusals.{switch_number}
use Rattle.rcu_status.specs.Commas.{with_commas}
use Rattle.rcu_jobs.specs.declared.Lists.{Lists}
use Rattle.rcuo_script.specs.Lines.{lists_line}
use Rattle.rcu_world.specs.GroupTurns.{IsGroupTurn, Made}
use Rattle.rcu_world.specs.Polls.{poll_events}
use Rattle.rcu_world_processor.specs.Shown.{cpu_lists, folk_lists}
use Rattle.rcu_world.specs.Turns.{AreCounts, Leads, Rooms, barrier_events, call_events, driver_answer, driver_events, hand_events, leave_events, shuts, switch_answer, tick_events, upto, where_enabled}
use Rattle.rcuo_script.specs.declared.lines.Verb.{Verb}
use Rattle.rcuo_script.specs.declared.lines.Verb.TheVariants as verb
use Rattle.rcuo_script.specs.declared.lines.Line.{Line}
use Rattle.rcuo_script.specs.declared.lines.Line.TheVariants as line

-- the command names a processor that isn't there: it is refused by number 6, and nothing happens
abbrev pub IsNoSuch : State → Verb → ℕ → Line → State → Type 0
IsNoSuch old v p l new = (length old.cpus ≤ p) × (l ≡ line.Refused v p 6) × (new ≡ old)

-- the command names a processor that is away: it is refused by number 21, and nothing happens
abbrev pub IsAway : State → Verb → ℕ → Line → State → Type 0
IsAway old v p l new = ((cpu_at old p).away ≡ true) × (l ≡ line.Refused v p 21) × (new ≡ old)

abbrev pub IsNotHere : State → Verb → ℕ → Line → State → Type 0
IsNotHere old v p l new = IsNoSuch old v p l new ⊎ IsAway old v p l new

-- why a call isn't accepted: no such processor; else away; else at the limit; else shut; else no room
abbrev pub call_refusal : State → ℕ → ℕ
call_refusal w p = if not (has w p) then 6 else if (cpu_at w p).away then 21 else if nat_le w.shape.limit (cpu_at w p).count then 4 else if (cpu_at w p).shut then 3 else 2

abbrev pub is_lazy : Verb → Bool
is_lazy verb.Lazy = true
is_lazy v = false

-- `call` and `lazy`: the job of this key is accepted with the processor's next number, or it is refused and nothing happens
abbrev pub IsCall : State → Verb → ℕ → ℕ → ℕ → Line → State → Type 0
IsCall old v p moment key (line.Number said cpu number) new =
    (said ≡ v) × (cpu ≡ p) × (number ≡ (cpu_at old p).count) × ((room : Bool) × Leads old (call_events p moment (is_lazy v) key room old) new)
IsCall old v p moment key (line.Refused said place refusal) new = (said ≡ v) × (place ≡ p) × (refusal ≡ call_refusal old p) × (new ≡ old)
IsCall old v p moment key l new = ⊥

-- the number of the grace period that a report of a processor would count for
abbrev pub counted_by : State → ℕ → Option ℕ
counted_by w p = if owes w p then Some w.number else None

-- `quiet`
abbrev pub IsQuiet : State → ℕ → Line → State → Type 0
IsQuiet old p (line.Counted cpu seq) new = (cpu ≡ p) × (counted_by old p ≡ Some seq) × Leads old (Report p ∷ []) new
IsQuiet old p (line.Nothing cpu) new = (cpu ≡ p) × (counted_by old p ≡ None) × Leads old (Report p ∷ []) new
IsQuiet old p l new = IsNotHere old verb.Quiet p l new

-- `tick`
abbrev pub IsTick : State → ℕ → ℕ → Line → State → Type 0
IsTick old p moment (line.Ran v cpu ran) new =
    (p < length old.cpus) × ((cpu_at old p).away ≡ false) × (v ≡ verb.Tick) × (cpu ≡ p) × ((rooms : Rooms) × Leads old (tick_events p moment rooms ran old) new)
IsTick old p moment l new = IsNotHere old verb.Tick p l new

-- the command names a processor that is here: it is refused by number 22, and nothing happens
abbrev pub IsHere : State → Verb → ℕ → Line → State → Type 0
IsHere old v p l new = (p < length old.cpus) × ((cpu_at old p).away ≡ false) × (l ≡ line.Refused v p 22) × (new ≡ old)

-- there is a bypass list to put, and no room for it: the command is refused by number 2, and nothing happens
abbrev pub HasNoRoom : State → Verb → ℕ → Line → State → Type 0
HasNoRoom old v p l new = (is_enabled old (Put p None) ≡ true) × ((cpu_at old p).away ≡ false) × (l ≡ line.Refused v p 2) × (new ≡ old)

-- `leave`
abbrev pub IsLeave : State → ℕ → Line → State → Type 0
IsLeave old p (line.Left cpu) new = (cpu ≡ p) × Leads old (leave_events p old) new
IsLeave old p l new = IsNotHere old verb.Leave p l new ⊎ HasNoRoom old verb.Leave p l new

-- `return`
abbrev pub IsReturn : State → ℕ → Line → State → Type 0
IsReturn old p (line.Returned cpu) new = (cpu ≡ p) × Leads old (Return p ∷ []) new
IsReturn old p l new = IsNoSuch old verb.Return p l new ⊎ IsHere old verb.Return p l new

-- `driver`
abbrev pub IsDriver : State → Line → State → Type 0
IsDriver old l new = (l ≡ line.Driver (driver_answer old)) × Leads old (driver_events old) new

-- `group`: there is a group part where the group has a member
abbrev pub IsGroup : State → ℕ → Line → State → Type 0
IsGroup old g (line.Group place took gave) new = (is_enabled old (LookGroup g) ≡ true) × (place ≡ g) × Made (IsGroupTurn g (length old.cpus)) old new took gave
IsGroup old g l new = (is_enabled old (LookGroup g) ≡ false) × (l ≡ line.Refused verb.Group g 6) × (new ≡ old)

-- why a hand's turn or a switch isn't made: no such processor, or one that isn't offloadable
abbrev pub IsPlaceRefusal : State → ℕ → ℕ → Type 0
IsPlaceRefusal w p refusal = (fault : SwitchFault) × (switch_answer w p ≡ Err fault) × (refusal ≡ switch_number fault)

-- `hand`
abbrev pub IsHand : State → ℕ → Line → State → Type 0
IsHand old p (line.Ran v cpu ran) new = (is_offloadable old p ≡ true) × (v ≡ verb.Hand) × (cpu ≡ p) × Leads old (hand_events p ran old) new
IsHand old p (line.Refused v place refusal) new = (v ≡ verb.Hand) × (place ≡ p) × IsPlaceRefusal old p refusal × (new ≡ old)
IsHand old p l new = ⊥

abbrev pub is_offload : Verb → Bool
is_offload verb.Offload = true
is_offload v = false

-- `offload` and `deoffload`
abbrev pub IsSwitch : State → Verb → ℕ → Line → State → Type 0
IsSwitch old v p (line.Asked said cpu) new = (said ≡ v) × (cpu ≡ p) × (switch_answer old p ≡ Ok tt) × Leads old (where_enabled (Ask p (is_offload v)) old) new
IsSwitch old v p (line.Refused said place refusal) new = (said ≡ v) × (place ≡ p) × IsPlaceRefusal old p refusal × Leads old (where_enabled (Ask p (is_offload v)) old) new
IsSwitch old v p l new = ⊥

-- `barrier`: the new barrier is the one that is open then
abbrev pub IsBarrier : State → Line → State → Option ℕ → Type 0
IsBarrier old l new opened = (l ≡ line.Opened) × (opened ≡ Some (length old.barriers)) × Leads old (barrier_events (length old.barriers) (length old.cpus) old) new

-- `poll` of the barrier that is open, if one is: only where it passes with this poll is it open no longer
abbrev pub IsPoll : State → Option ℕ → Line → State → Option ℕ → Type 0
IsPoll old opened line.NoBarrier new still = (opened ≡ None) × (still ≡ None) × (new ≡ old)
IsPoll old opened line.Passed new still = (b : ℕ) × (opened ≡ Some b) × (still ≡ None) × Leads old (poll_events b (length old.cpus) old) new × (new.history ≡ old.history ++ marks.Passed b ∷ [])
IsPoll old opened line.Waits new still = (b : ℕ) × (opened ≡ Some b) × (still ≡ opened) × Leads old (poll_events b (length old.cpus) old) new × (new.history ≡ old.history)
IsPoll old opened l new still = ⊥

-- `shut`: the final counts of all processors
abbrev pub IsShut : State → Line → State → Type 0
IsShut old (line.Shut text) new =
    Leads old (upto shuts (length old.cpus) old) new × ((counts : List ℕ) × AreCounts new (length new.cpus) counts × (string_bytes text ≡ with_commas (take (length new.cpus) counts)))
IsShut old l new = ⊥

abbrev pub group_line : ℕ → Option Lists → List ℕ
group_line p None = []
group_line p (Some lists) = lists_line p lists

-- `show`: the lines of the first n processors, and of their groups where they are offloadable
unfoldable pub shown_one : State → ℕ → List ℕ
shown_one w p = lists_line p (cpu_lists (cpu_at w p)) ++ group_line p (if is_offloadable w p then Some (folk_lists (cpu_at w p)) else None)

unfoldable pub shown : ℕ → State → List ℕ
shown zero w = []
shown (suc n) w = shown n w ++ shown_one w n
