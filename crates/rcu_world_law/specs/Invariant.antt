-- The invariant: what always holds of the core.
use Rattle.std.specs.Prelude.{ℕ, ◌+◌, ◌/◌, ◌%◌, ◌<◌, ◌≤◌, ◌≡◌, Bool, true, false, ◌&&◌, not, ◌==◌, if◌then◌else◌, List, [], ◌∷◌, ◌++◌, length, take, map, Option, Some, None, slice_index_or}
use Rattle.std.specs.List.{slice_get, AllByRecursion}
use Rattle.std.specs.Option.{option_to_list}
use Rattle.rcu_world_law.specs.declared.marks.Mark.{Mark}
use Rattle.rcu_world_law.specs.declared.marks.Mark.TheVariants.{Accepted, Reported, Ran, Opened, Passed, Shut, Back}
use Rattle.rcu_world_law.specs.declared.labels.Label.{Label}
use Rattle.rcu_world_law.specs.declared.labels.Label.TheVariants.{Done, At, Bare}
use Rattle.rcu_jobs.specs.declared.modes.Mode.{Mode}
use Rattle.rcu_jobs.specs.declared.modes.Mode.TheVariants.{Local, Offloading, Offloaded, Deoffloading}
use Rattle.rcu_world_law.specs.declared.who.Side.{Side}
use Rattle.rcu_world_law.specs.Lists.{is_nil, is_none}
use Rattle.rcu_numbers.specs.Numbers.{snap_of}
use Rattle.rcu_numbers.specs.declared.sequence.TheConstants.{GREATEST_NUMBER}
use Rattle.rcu_world_law.specs.Numbers.{begun}
use Rattle.rcu_world_law.specs.Calls.{Call}
use Rattle.rcu_world_law.specs.LabelledLists.{Labelled, IsLabelledList, IsUpTo, MayAccelerate, advance, newest}
use Rattle.rcu_world_law.specs.Law.{accepted, ran, IsAccepted, IsLawful}
use Rattle.rcu_jobs.specs.Modes.{is_offloaded}
use Rattle.rcu_world_law.specs.States.{State, Cpu, Run, Barrier, cpu_at, barrier_at, count_at}
use Rattle.rcu_world_law.specs.Places.{key_of, stamped_callbacks, remaining_callbacks, offloaded_callbacks}

-- Reports and the board.

abbrev pub report_of : ℕ → Mark → ℕ
report_of q (Accepted p key) = 0
report_of q (Reported p) = if p == q then 1 else 0
report_of q (Ran p key) = 0
report_of q (Opened b) = 0
report_of q (Passed b) = 0
report_of q (Shut p) = 0
report_of q (Back p key) = 0

-- how often q reported
abbrev pub reports : ℕ → List Mark → ℕ
reports q [] = 0
reports q (m ∷ ms) = report_of q m + reports q ms

abbrev pub owed : Bool → ℕ
owed true = 1
owed false = 0

-- "Board law" (`docs/specification/definitions.md`): a processor has reported once in each grace period that began, but
-- for the one in which it still owes its report; while no grace period is in progress none owes one
pub record IsBoard (n number : ℕ) (owing : List Bool) (h : List Mark) : Type 0 where
  pub size : length owing ≡ n
  pub phase : number % 4 ≤ 1
  pub small : number ≤ GREATEST_NUMBER
  pub reported : (q : ℕ) → q < n → reports q h + owed (slice_index_or owing q false) ≡ begun number
  pub idle : number % 4 ≡ 0 → (q : ℕ) → q < n → slice_index_or owing q false ≡ false

-- Stamps: s is a number that was seen after the k-th acceptance of p, so no processor had reported before it in a grace
-- period that begins after s
pub record IsStampFor (n : ℕ) (h : List Mark) (p k s : ℕ) : Type 0 where
  pub each : (t q : ℕ) → IsAccepted h p k t → q < n → reports q (take t h) ≤ begun s

-- a callback with its stamp
pub record IsStamped (n : ℕ) (h : List Mark) (p number : ℕ) (c : Call) : Type 0 where
  pub early : IsStampFor n h p c.number c.stamp
  pub within : c.number < length (accepted p h)
  pub past : c.stamp ≤ number

-- a fresh one: the number of now will do for its stamp
pub record IsFresh (n : ℕ) (h : List Mark) (p number : ℕ) (c : Call) : Type 0 where
  pub early : IsStampFor n h p c.number number
  pub within : c.number < length (accepted p h)

-- the stamps of a processor's callbacks, and its sights
pub record IsStampedInTime (n : ℕ) (h : List Mark) (p number : ℕ) (c : Cpu) : Type 0 where
  pub stamped : AllByRecursion (IsStamped n h p number) (stamped_callbacks c)
  pub fresh : AllByRecursion (IsFresh n h p number) (option_to_list c.fresh)
  pub sight : c.sight ≤ number
  pub hand_sight : c.hand_sight ≤ number

-- Places and order.

-- the callbacks have the numbers from k on
abbrev pub AreNumbered : ℕ → List Call → Type 0
AreNumbered k [] = Unit {0}
AreNumbered k (c ∷ cs) = (c.number ≡ k) × AreNumbered (k + 1) cs

-- "Places" and "turn law": what was accepted is what ran and then what is in the eight places, with numbers that rise by
-- one; the count is that of the accepted ones, the turn that of those that ran; the records have the numbers from 0 on
pub record IsPlacedInOrder (h : List Mark) (p : ℕ) (c : Cpu) : Type 0 where
  pub keys : accepted p h ≡ ran p h ++ map key_of (remaining_callbacks c)
  pub numbers : AreNumbered (length (ran p h)) (remaining_callbacks c)
  pub count : c.count ≡ length (accepted p h)
  pub turn : (c.turn + 1) / 2 ≡ length (ran p h)
  pub runs : map (λ r. r.call.key) c.runs ≡ ran p h
  pub numbered : AreNumbered 0 (map (λ r. r.call) c.runs)

-- the turn is odd exactly while a claim runs
abbrev pub running_part : Option Side → ℕ
running_part None = 0
running_part (Some by) = 1

abbrev pub IsRunningByTurn : Cpu → Type 0
IsRunningByTurn c = c.turn % 2 ≡ running_part c.running

-- What ran.

-- each ran by a part whose sight was at least `snap(stamp)`; that sight is the record's ready
-- (`docs/specification/rules.md`, "Callbacks and stamps")
abbrev pub AreReady : List Run → Type 0
AreReady runs = AllByRecursion (λ r. snap_of r.call.stamp ≤ r.ready) runs

-- "Given", but for the receipts, of the records of p in a history: there are as many as `Ran` marks of p, the k-th has the
-- key of the k-th, and each was ready; their numbers are 0, 1, 2, .. (`docs/specification/surface.md`, "Shared answer types")
pub record AreRecords (h : List Mark) (p : ℕ) (runs : List Run) : Type 0 where
  pub numbers : AreNumbered 0 (map (λ r. r.call) runs)
  pub keys : map (λ r. r.call.key) runs ≡ ran p h
  pub ready : AreReady runs

-- Lists.

-- a label is no earlier than the stamp allows: done only by a sight of `snap(stamp)` or more, and no number below it
abbrev pub IsLabelFor : ℕ → ℕ → Label → Type 0
IsLabelFor sight stamp Done = snap_of stamp ≤ sight
IsLabelFor sight stamp (At m) = snap_of stamp ≤ m
IsLabelFor sight stamp Bare = Unit {0}

-- a labelled list that was last looked at by a part with this sight; no number in it is above what a look of now would give
pub record IsLabelledAt (sight number : ℕ) (ws : List Labelled) : Type 0 where
  pub list : IsLabelledList ws
  pub due : AllByRecursion (λ w. IsLabelFor sight w.call.stamp w.label) ws
  pub most : AllByRecursion (λ w. IsUpTo (snap_of number) w.label) ws

-- the own list and the group's list are labelled lists
abbrev pub AreLabelledAt : ℕ → Cpu → Type 0
AreLabelledAt number c = IsLabelledAt c.sight number c.own × IsLabelledAt number number c.joined

-- one of the two lists that new callbacks go to is empty
pub record IsInOneList (c : Cpu) : Type 0 where
  pub own : is_offloaded c.mode ≡ true → c.own ≡ []
  pub bypass : is_offloaded c.mode ≡ false → c.bypass ≡ []

-- the bypass list is empty exactly where it holds neither a plain callback nor a lazy one
abbrev pub IsOfItsKinds : Cpu → Type 0
IsOfItsKinds c = is_nil c.bypass ≡ (not c.plain && is_none c.kept_moment)

-- in Local no callback is left with group or hand; in Deoffloading those that are were accepted before the processor left
abbrev pub MayHaveOffloaded : Mode → ℕ → List Call → Type 0
MayHaveOffloaded Local left xs = xs ≡ []
MayHaveOffloaded Offloading left xs = Unit {0}
MayHaveOffloaded Offloaded left xs = Unit {0}
MayHaveOffloaded Deoffloading left xs = AllByRecursion (λ x. x.number < left) xs

-- Shut and barriers.

-- a processor is shut exactly where its `Shut` stands
pub record IsShutAsMarked (h : List Mark) (p : ℕ) (c : Cpu) : Type 0 where
  pub never : c.shut ≡ false → (i : ℕ) → slice_get h i ≡ Some (Shut p) → ⊥
  pub marked : c.shut ≡ true → (j : ℕ) × (slice_get h j ≡ Some (Shut p))

-- a barrier: it was opened, what was accepted before that is below each count, and who was seen had run them
pub record IsBarrier (n : ℕ) (h : List Mark) (b : ℕ) (v : Barrier) : Type 0 where
  pub counts : length v.counts ≡ n
  pub seens : length v.seen ≡ n
  pub opened : (o : ℕ) × (slice_get h o ≡ Some (Opened b))
  pub counted : (o p k t c : ℕ) → slice_get h o ≡ Some (Opened b) → IsAccepted h p k t → t < o → count_at v p ≡ Some c → k < c
  pub seen : (p : ℕ) → slice_index_or v.seen p false ≡ true → (c : ℕ) × (count_at v p ≡ Some c) × (c ≤ length (ran p h))
  pub unpassed : v.passed ≡ false → (e : ℕ) → slice_get h e ≡ Some (Passed b) → ⊥

-- The whole.

pub record IsCpu (n : ℕ) (h : List Mark) (number limit p : ℕ) (c : Cpu) : Type 0 where
  pub placed : IsPlacedInOrder h p c
  pub timely : IsStampedInTime n h p number c
  pub lists : AreLabelledAt number c
  pub running : IsRunningByTurn c
  pub ready : AreReady c.runs
  pub shut : IsShutAsMarked h p c
  pub one_list : IsInOneList c
  pub kinds : IsOfItsKinds c
  pub offloaded : MayHaveOffloaded c.mode c.left (offloaded_callbacks c)
  pub bounded : c.count ≤ limit

pub record IsCore (w : State) : Type 0 where
  pub board : IsBoard (length w.cpus) w.number w.owing w.history
  pub cpu : (p : ℕ) → p < length w.cpus → IsCpu (length w.cpus) w.history w.number w.shape.limit p (cpu_at w p)
  pub barrier : (b : ℕ) → b < length w.barriers → IsBarrier (length w.cpus) w.history b (barrier_at w b)
  -- no mark names a barrier that wasn't opened, or accepts on a processor that isn't there
  pub opened : (b o : ℕ) → slice_get w.history o ≡ Some (Opened b) → b < length w.barriers
  pub passed : (b o : ℕ) → slice_get w.history o ≡ Some (Passed b) → b < length w.barriers
  pub there : (p k t : ℕ) → IsAccepted w.history p k t → p < length w.cpus
  pub lawful : IsLawful (length w.cpus) w.history

-- What follows for the lists of a processor: they are labelled lists, and the next look may accelerate them.
pub record HasLabelledLists (w : State) (p : ℕ) : Type 0 where
  pub own : IsLabelledList (cpu_at w p).own
  pub joined : IsLabelledList (cpu_at w p).joined
  pub own_accelerates : MayAccelerate (snap_of (newest w.number (advance w.number (cpu_at w p).own))) (advance w.number (cpu_at w p).own)
  pub joined_accelerates : MayAccelerate (snap_of (newest w.number (advance w.number (cpu_at w p).joined))) (advance w.number (cpu_at w p).joined)
