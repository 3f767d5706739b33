-- The turn calls, as lists of events. docs/specification/rules.md, "On the core"; docs/specification/surface.md, "rcu_world"
use Rattle.std.specs.Prelude.{ℕ, zero, suc, ◌+◌, ◌%◌, ◌≡◌, Bool, true, false, not, ◌&&◌, ◌==◌, nat_lt, if◌then◌else◌, Option, Some, None, nat_le, ◌<◌, ◌⊎◌, slice_index, List, [], ◌∷◌, ◌++◌, length}
use Rattle.rcu_jobs.specs.declared.Stop.{Stop}
use Rattle.rcu_jobs.specs.declared.Stop.TheVariants as stops
use Rattle.rcu_world_law.specs.declared.who.Side.{Side}
use Rattle.rcu_world_law.specs.declared.who.Side.TheVariants.{Local, Hand}
use Rattle.rcu_world_law.specs.declared.who.Who.TheVariants as who
use Rattle.rcu_jobs.specs.declared.DriverTurn.{DriverTurn}
use Rattle.rcu_jobs.specs.declared.DriverTurn.TheVariants as drivers
use Rattle.rcu_jobs.specs.declared.SwitchFault.{SwitchFault}
use Rattle.rcu_jobs.specs.declared.SwitchFault.TheVariants as faults
use Rattle.std.specs.Prelude.{Result, Ok, Err}
use Rattle.rcu_jobs.specs.declared.Ticket.{Ticket}
use Rattle.rcu_jobs.specs.declared.BarrierFault.{BarrierFault}
use Rattle.rcu_jobs.specs.declared.BarrierFault.TheVariants as barriers
use Rattle.rcu_numbers.specs.declared.sequence.TheConstants.{GREATEST_NUMBER}
use Rattle.rcu_jobs.specs.Modes.{is_offloaded}
use Rattle.rcu_world_law.specs.States.{State, Cpu, cpu_at, has, is_offloadable, owes}
use Rattle.rcu_world_law.specs.Steps.{can_claim}
use Rattle.rcu_world_processor.specs.Turns.{has_none, is_switching}
use Rattle.rcu_world_law.specs.Releases.{releases, releases_in_tick, moment_of_tick}
use Rattle.rcu_world_law.specs.Events.{CoreEvent, is_enabled, happens, run}
use Rattle.rcu_world.specs.Boards.{first_of}
use Rattle.rcu_world.specs.Views.{state}
use Rattle.rcu_world.specs.declared.cores.Core.{Core}
use Rattle.rcu_world_law.specs.Events.CoreEvent.{Accept, Stamp, Put, Start, End, Look, Need, Claim, Finish, Heed, Settle, Hear, LookHand, Fetch, Shut, Open, Count, Urge, Leave, Meet}

-- every event of the list is enabled, one after another
abbrev pub AreEnabled : List CoreEvent → State → Type 0
AreEnabled [] w = Unit {0}
AreEnabled (e ∷ es) w = (is_enabled w e ≡ true) × AreEnabled es (happens w e)

-- the events of a list, all enabled, lead from one state to another
pub record Leads (old : State) (es : List CoreEvent) (new : State) : Type 0 where
  pub enabled : AreEnabled es old
  pub state : new ≡ run es old

-- nothing is fresh, and no claim runs
pub record IsIdle (c : Cpu) : Type 0 where
  pub fresh : c.fresh ≡ None
  pub running : c.running ≡ None

-- so each turn call finds the world, and leaves it
pub record IsAtRest (w : State) : Type 0 where
  pub each : (p : ℕ) → IsIdle (cpu_at w p)

-- a world at rest stays so
abbrev pub KeepsRest : {J R : Type 0} → (J → ℕ) → Core J R → Core J R → Type 0
KeepsRest key_of old new = IsAtRest (state key_of old) → IsAtRest (state key_of new)

-- a callback of processor p alone is fresh
pub record IsAtRestBut (p : ℕ) (w : State) : Type 0 where
  pub fresh : (q : ℕ) → (q ≡ p → ⊥) → (cpu_at w q).fresh ≡ None
  pub running : (q : ℕ) → (cpu_at w q).running ≡ None

-- only Accept makes a callback fresh, only Claim begins to run one
abbrev pub keeps_rest : CoreEvent → Bool
keeps_rest (Accept p key) = false
keeps_rest (Claim p by) = false
keeps_rest e = true

-- an event, where it is enabled
abbrev pub where_enabled : CoreEvent → State → List CoreEvent
where_enabled e w = if is_enabled w e then e ∷ [] else []

-- the events of f, and then those of g, from where f leads
unfoldable pub and_then : (State → List CoreEvent) → (State → List CoreEvent) → State → List CoreEvent
and_then f g w = f w ++ g (run (f w) w)

-- Which growths of a call found room: of the lane for a released batch, of the bypass list for what is poured, of the lane for what was poured. No call can know it beforehand.
pub record Rooms : Type 0 where
  pub put : Bool
  pub pour : Bool
  pub put_again : Bool

-- `call_rcu` and `call_rcu_lazy`: Accept; Stamp; where that answers Due, Put with no moment
abbrev pub is_released : ℕ → ℕ → Bool → State → Bool
is_released p moment lazy w = is_offloaded (cpu_at w p).mode && releases w.shape.qhimark lazy moment (cpu_at w p)

abbrev pub stamp_events : ℕ → ℕ → Bool → Bool → State → List CoreEvent
stamp_events p moment lazy room w = Stamp p moment lazy ∷ (if is_released p moment lazy w && room then Put p None ∷ [] else [])

abbrev pub call_events : ℕ → ℕ → Bool → ℕ → Bool → State → List CoreEvent
call_events p moment lazy key room = and_then (λ w. Accept p key ∷ []) (stamp_events p moment lazy room)

-- `tick`: Look; Need where accelerate answered true;
abbrev pub look_events : ℕ → State → List CoreEvent
look_events p = and_then (where_enabled (Look p)) (where_enabled (Need (who.Cpu p)))

-- Hear; Put where the list is released, its moment given where the test by the moment says yes;
abbrev pub put_in_tick : ℕ → ℕ → Bool → Bool → State → List CoreEvent
put_in_tick p moment urged room w = if releases_in_tick urged moment (cpu_at w p) && room then where_enabled (Put p (moment_of_tick moment (cpu_at w p))) w else []

abbrev pub release_events : ℕ → ℕ → Bool → State → List CoreEvent
release_events p moment room w = and_then (where_enabled (Hear p)) (put_in_tick p moment (cpu_at w p).urged room) w

-- Heed where a switch is asked for that can be made; after pouring Put with no moment for a bypass list that isn't empty;
abbrev pub put_after_pouring : ℕ → Bool → State → List CoreEvent
put_after_pouring p room w = if is_offloaded (cpu_at w p).mode && room then where_enabled (Put p None) w else []

abbrev pub switch_events : ℕ → Bool → Bool → State → List CoreEvent
switch_events p pour room w = if is_switching (cpu_at w p) then and_then (where_enabled (Heed p pour)) (put_after_pouring p room) w else []

-- in Deoffloading Settle;
abbrev pub offloadable_events : ℕ → ℕ → Rooms → State → List CoreEvent
offloadable_events p moment rooms w =
    if is_offloadable w p then and_then (release_events p moment rooms.put) (and_then (switch_events p rooms.pour rooms.put_again) (where_enabled (Settle p))) w else []

-- then Claim and Finish for each callback that is run
abbrev pub run_events : ℕ → Side → ℕ → List CoreEvent
run_events p by zero = []
run_events p by (suc n) = Claim p by ∷ (Finish p by ∷ run_events p by n)

abbrev pub tick_events : ℕ → ℕ → Rooms → ℕ → State → List CoreEvent
tick_events p moment rooms ran = and_then (look_events p) (and_then (offloadable_events p moment rooms) (λ w. run_events p Local ran))

-- Why no more are run: the first of these that holds before the next callback (docs/specification/surface.md, "Shared answer types"). A claim that is enabled fails by want of memory alone.
abbrev pub stop_of : Side → ℕ → ℕ → Cpu → Stop
stop_of by blimit ran c = if ran == blimit then stops.Limit else if has_none by c then stops.Empty else if can_claim by c then stops.Memory else stops.Turn

-- `hand_turn`: LookHand; Fetch if it holds no batch; then Claim and Finish for each callback that is run
abbrev pub hand_events : ℕ → ℕ → State → List CoreEvent
hand_events p ran = and_then (where_enabled (LookHand p)) (and_then (where_enabled (Fetch p)) (λ w. run_events p Hand ran))

-- `offload` and `deoffload`: Ask, where there is such a processor (tested first) and it is offloadable
abbrev pub switch_answer : State → ℕ → Result (Unit {0}) SwitchFault
switch_answer w p = if not (has w p) then Err (faults.NoProcessor p) else if not (is_offloadable w p) then Err (faults.NotOffloadable p) else Ok tt

-- the events of f for the first n processors, in rising order
abbrev pub upto : (ℕ → State → List CoreEvent) → ℕ → State → List CoreEvent
upto f zero w = []
upto f (suc n) w = and_then (upto f n) (f n) w

-- a grace period waits for a processor that owes its report and is here, the first of these before others
abbrev pub waits_for : State → ℕ → Bool
waits_for w p = owes w p && not (cpu_at w p).away

abbrev pub first_waited : State → ℕ
first_waited w = first_of (waits_for w) (length w.cpus)

-- `driver_turn`: Start; or Meet for each processor before the first that is waited for, and End where none is
abbrev pub meets : ℕ → State → List CoreEvent
meets p = where_enabled (Meet p)

abbrev pub end_events : State → List CoreEvent
end_events w = and_then (upto meets (first_waited w)) (where_enabled End) w

abbrev pub driver_events : State → List CoreEvent
driver_events w = if w.number % 4 == 0 then where_enabled Start w else end_events w

abbrev pub driver_answer : State → DriverTurn
driver_answer w =
    if w.number % 4 == 0 then (if not (nat_lt w.number w.needed) then drivers.Idle else if nat_lt w.number GREATEST_NUMBER then drivers.Started (w.number + 1) else drivers.Spent)
    else (if first_waited w == length w.cpus then drivers.Ended (w.number + 3) else drivers.Waits (first_waited w))

-- `leave`: Put with no moment for a bypass list that isn't empty; Leave
abbrev pub leave_events : ℕ → State → List CoreEvent
leave_events p = and_then (where_enabled (Put p None)) (λ w. Leave p ∷ [])

-- `shut`: each Shut
abbrev pub shuts : ℕ → State → List CoreEvent
shuts p = where_enabled (Shut p)

-- the counts of all processors
pub record AreCounts (w : State) (n : ℕ) (counts : List ℕ) : Type 0 where
  pub all : n ≡ length w.cpus
  pub each : (p : ℕ) → p < length w.cpus → slice_index counts p ≡ (cpu_at w p).count

-- `barrier`: Open, each Count, Urge
abbrev pub counts_for : ℕ → ℕ → State → List CoreEvent
counts_for b p = where_enabled (Count b p)

abbrev pub barrier_events : ℕ → ℕ → State → List CoreEvent
barrier_events b n = and_then (where_enabled (Open b)) (and_then (upto (counts_for b) n) (where_enabled Urge))

-- the first fault of the tickets, in their order: no such processor, or a number that isn't accepted yet
abbrev pub ticket_fault : State → List Ticket → Option BarrierFault
ticket_fault w [] = None
ticket_fault w (t ∷ ts) =
    if not (has w t.cpu) then Some (barriers.NoProcessor t.cpu)
    else if nat_le (cpu_at w t.cpu).count t.number then Some (barriers.Ahead t.cpu (cpu_at w t.cpu).count)
    else ticket_fault w ts

-- the caller is tested before the tickets
abbrev pub barrier_fault : State → Option ℕ → List Ticket → Option BarrierFault
barrier_fault w None ts = ticket_fault w ts
barrier_fault w (Some p) ts = if has w p then ticket_fault w ts else Some (barriers.NoProcessor p)

-- what `barrier` answers: the name, or the first fault; Memory only where there is none
abbrev pub IsBarrierAnswer : State → Option ℕ → List Ticket → Result ℕ BarrierFault → Type 0
IsBarrierAnswer w by ts (Ok name) = (barrier_fault w by ts ≡ None) × (name ≡ length w.barriers)
IsBarrierAnswer w by ts (Err fault) = (barrier_fault w by ts ≡ Some fault) ⊎ ((barrier_fault w by ts ≡ None) × (fault ≡ barriers.Memory))
