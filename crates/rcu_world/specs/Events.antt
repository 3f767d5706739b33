-- The events and answers of the code against the machine of rcu_world_law. docs/specification/definitions.md, "The core"; docs/specification/surface.md, "rcu_world"
use Rattle.std.specs.Prelude.{ℕ, ◌≡◌, Bool, true, false, ◌&&◌, Option, Some, None, List, [], ◌∷◌}
use Rattle.rcu_world.specs.declared.events.Event.{Event}
use Rattle.rcu_world.specs.declared.events.Event.TheVariants as events
use Rattle.rcu_world.specs.declared.events.Answer.{Answer}
use Rattle.rcu_world.specs.declared.events.Answer.TheVariants as answers
use Rattle.rcu_jobs.specs.Modes.{is_offloaded}
use Rattle.rcu_world_law.specs.States.{State, cpu_at, owes}
use Rattle.rcu_world_law.specs.Events.{CoreEvent, is_enabled, after}
use Rattle.rcu_world_law.specs.Releases.{releases}
use Rattle.rcu_world_law.specs.Events.CoreEvent.{Accept, Stamp, Put, Report, Start, End, Look, LookGroup, LookHand, Need, Draw, Join, Give, Fetch, Claim, Finish, Ask, Heed, Settle, Open, Count, Turn, Pass, Shut, Urge, Hear, Leave, Return, Meet}

-- The event of the machine, with the key of its job in place of the job. `poured` says whether Heed had room to pour, which is the machine's to choose.
abbrev pub core_event : {J : Type 0} → (J → ℕ) → Bool → Event J → CoreEvent
core_event key_of poured (events.Accept p job) = Accept p (key_of job)
core_event key_of poured (events.Stamp p m lazy) = Stamp p m lazy
core_event key_of poured (events.Put p m) = Put p m
core_event key_of poured (events.Report p) = Report p
core_event key_of poured events.Start = Start
core_event key_of poured events.End = End
core_event key_of poured (events.Look p) = Look p
core_event key_of poured (events.LookGroup g) = LookGroup g
core_event key_of poured (events.LookHand p) = LookHand p
core_event key_of poured (events.Need who) = Need who
core_event key_of poured (events.Draw p) = Draw p
core_event key_of poured (events.Join p) = Join p
core_event key_of poured (events.Give p) = Give p
core_event key_of poured (events.Fetch p) = Fetch p
core_event key_of poured (events.Claim p by) = Claim p by
core_event key_of poured (events.Finish p by) = Finish p by
core_event key_of poured (events.Ask p on) = Ask p on
core_event key_of poured (events.Heed p) = Heed p poured
core_event key_of poured (events.Settle p) = Settle p
core_event key_of poured (events.Open b) = Open b
core_event key_of poured (events.Count b p) = Count b p
core_event key_of poured (events.Turn b p) = Turn b p
core_event key_of poured (events.Pass b) = Pass b
core_event key_of poured (events.Shut p) = Shut p
core_event key_of poured events.Urge = Urge
core_event key_of poured (events.Hear p) = Hear p
core_event key_of poured (events.Leave p) = Leave p
core_event key_of poured (events.Return p) = Return p
core_event key_of poured (events.Meet p) = Meet p

-- the job that an event has
abbrev pub job_of : {J : Type 0} → Event J → Option J
job_of (events.Accept p job) = Some job
job_of e = None

-- a placed callback releases its list: only Stamp places one
abbrev pub is_due : {J : Type 0} → State → Event J → Bool
is_due w (events.Stamp p m lazy) = is_offloaded (cpu_at w p).mode && releases w.shape.qhimark lazy m (cpu_at w p)
is_due w e = false

-- an event takes memory where it adds to a list, to the history or to the barriers
abbrev pub needs_room : {J : Type 0} → State → Event J → Bool
needs_room w (events.Accept p job) = true
needs_room w (events.Stamp p m lazy) = true
needs_room w (events.Put p m) = true
needs_room w (events.Report p) = owes w p
needs_room w (events.Join p) = true
needs_room w (events.Give p) = true
needs_room w (events.Claim p by) = true
needs_room w (events.Open b) = true
needs_room w (events.Pass b) = true
needs_room w (events.Shut p) = true
needs_room w (events.Meet p) = true
needs_room w e = false

-- the state becomes what the event makes of it
abbrev pub Becomes : {J : Type 0} → (J → ℕ) → State → Event J → State → Type 0
Becomes key_of old (events.Heed p) new = (poured : Bool) × (new ≡ after old (Heed p poured))
Becomes key_of old e new = new ≡ after old (core_event key_of true e)

-- What an answer says of the state before and after. Skipped: exactly where the event isn't enabled. Memory: only where it is, and takes memory.
-- Both change nothing and hand the job back.
abbrev pub Answers : {J : Type 0} → (J → ℕ) → State → Event J → Answer J → State → Type 0
Answers key_of old e answers.Done new = (is_enabled old (core_event key_of true e) ≡ true) × Becomes key_of old e new × (is_due old e ≡ false)
Answers key_of old e answers.Due new = (is_enabled old (core_event key_of true e) ≡ true) × Becomes key_of old e new × (is_due old e ≡ true)
Answers key_of old e (answers.Skipped job) new = (is_enabled old (core_event key_of true e) ≡ false) × (new ≡ old) × (job ≡ job_of e)
Answers key_of old e (answers.Memory job) new = (is_enabled old (core_event key_of true e) ≡ true) × (new ≡ old) × (job ≡ job_of e) × (needs_room old e ≡ true)

-- one answer for each event, one step after another
abbrev pub Runs : {J : Type 0} → (J → ℕ) → State → List (Event J) → List (Answer J) → State → Type 0
Runs key_of old [] [] new = new ≡ old
Runs key_of old (e ∷ es) (a ∷ rest) new = (mid : State) × Answers key_of old e a mid × Runs key_of mid es rest new
Runs key_of old [] (a ∷ rest) new = ⊥
Runs key_of old (e ∷ es) [] new = ⊥
