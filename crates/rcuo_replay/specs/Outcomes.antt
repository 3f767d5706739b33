-- What each command does to the parts, and the line of its answer: docs/specification/tables.md, "Script commands and what they print". What a call of a part does and answers is its contract in rcu_parts and rcu_part_control.
use Rattle.std.specs.Prelude.{ℕ, suc, ◌≡◌, ◌≢◌, ◌≤◌, ◌++◌, List, [], ◌∷◌, Option, None, Some, IfSome, Ok, Err, Result, MatchResult, ◌⊎◌, All, Any, length, take, string_bytes, if◌then◌else◌, nat_lt}
use Rattle.rcu_board.specs.declared.board.Board.{Board}
use Rattle.rcu_board.specs.declared.view.View.{View}
use Rattle.rcu_part_control.specs.Barriers.{OpensBy, PollsBy}
use Rattle.rcu_part_control.specs.Control.{Shuts, SwitchesBy}
use Rattle.rcu_part_control.specs.Driving.{DrivesBy}
use Rattle.rcu_part_control.specs.Parts.{control_board, control_view, driver_board, driver_view}
use Rattle.rcu_part_control.specs.declared.barrier.Barrier.{Barrier}
use Rattle.rcu_part_control.specs.declared.control.Control.{Control}
use Rattle.rcu_part_control.specs.declared.driver.Driver.{Driver}
use Rattle.rcu_jobs.specs.Refusals.{number_of, switch_number}
use Rattle.rcu_jobs.specs.declared.SwitchFault.{SwitchFault}
use Rattle.rcu_jobs.specs.declared.Passed.{Passed}
use Rattle.rcu_jobs.specs.declared.answers.Refused.{Refused}
use Rattle.rcu_jobs.specs.declared.answers.Ticket.{Ticket}
use Rattle.rcu_jobs.specs.declared.counts.Counts.{Counts}
use Rattle.rcu_jobs.specs.declared.turns.GroupTurn.{GroupTurn}
use Rattle.rcu_jobs.specs.declared.turns.HandTurn.{HandTurn}
use Rattle.rcu_jobs.specs.declared.turns.Lists.{Lists}
use Rattle.rcu_jobs.specs.declared.turns.Ticked.{Ticked}
use Rattle.rcu_lists.specs.declared.pace.Kind.{Kind}
use Rattle.rcu_lists.specs.declared.pace.Kind.TheVariants.{Plain, Lazy}
use Rattle.rcu_part_processor.specs.Calls.{IsAccepted, IsRefusedAs, KeepsAll}
use Rattle.rcu_part_group.specs.Groups.{ShownFor, TurnsGroup, members_of}
use Rattle.rcu_part_hand.specs.Hands.{TurnsBy}
use Rattle.rcu_part_processor.specs.Away.{StaysHere}
use Rattle.rcu_part_processor.specs.Processors.{view_of}
use Rattle.rcu_part_steps.specs.Reports.{Reports}
use Rattle.rcu_part_processor.specs.Ticks.{TicksBy}
use Rattle.rcu_part_group.specs.declared.group.Group.{Group}
use Rattle.rcu_part_hand.specs.declared.hand.Hand.{Hand}
use Rattle.rcu_part_processor.specs.declared.processor.Processor.{Processor}
use Rattle.rcuo_script.specs.Lines.{lists_line}
use Rattle.rcuo_script.specs.declared.lines.Verb.{Verb}
use Rattle.rcuo_script.specs.declared.lines.Verb.TheVariants as verb
use Rattle.rcuo_script.specs.declared.lines.Line.{Line}
use Rattle.rcuo_script.specs.declared.lines.Line.TheVariants as line
use Rattle.rcu_status.specs.Commas.{with_commas}
use Rattle.rcuo_replay.specs.Changes.{ChangesAt, HoldsAt}
use Rattle.rcuo_replay.specs.Presences.{ComesBack, GoesAway, ScriptProcessor, lists_shown}
use Rattle.rcuo_replay.specs.declared.presence.Presence.TheVariants.{Away, Here}

-- There is no place k, so the command is refused by number 6, and nothing changes.
abbrev pub IsNoSuch : {X : Type 0} → Verb → ℕ → Line → List X → List X → Type 0
IsNoSuch v k l olds news = (length olds ≤ k) × (l ≡ line.Refused v k 6) × (news ≡ olds)

-- What the command does to the part in place k, as R says; or there is no such place.
abbrev pub InPlace : {X : Type 0} → Verb → ℕ → Line → (X → X → Type 0) → List X → List X → Type 0
InPlace v k l R olds news = IsNoSuch v k l olds news ⊎ ChangesAt k R olds news

-- ---- processors

abbrev pub kind_of : Verb → Kind
kind_of verb.Lazy = Lazy
kind_of v = Plain

module _ {J R : Type 0} where
  -- A command of a processor's own: where it is here it does what is said, and is here still. Where it is away the command is
  -- refused by number 21, and nothing changes.
  abbrev pub WhileHere : Verb → ℕ → Line → (Processor J R → Processor J R → Type 0) → ScriptProcessor J R → ScriptProcessor J R → Type 0
  WhileHere v cpu l Does (Here p) now = (q : Processor J R) × (now ≡ Here q) × Does p q
  WhileHere v cpu l Does (Away a) now = (l ≡ line.Refused v cpu 21) × (now ≡ Away a)

module _ {J R : Type 0} (key_of : J → ℕ) where
  -- what a call answers a job: it is accepted, or refused and nothing is accepted
  abbrev pub Calls : Verb → ℕ → J → Result Ticket (Refused J) → Processor J R → Processor J R → Type 0
  Calls v moment job answer p q = MatchResult answer
      (λ t. IsAccepted moment (kind_of v) (key_of job) job t p.state q.state)
      (λ r. KeepsAll p.state q.state × IsRefusedAs job r p.state q.state)

  -- the line that this answer is told by
  abbrev pub CallsAs : Verb → ℕ → ℕ → J → Line → Processor J R → Processor J R → Type 0
  CallsAs v cpu moment job (line.Number said place number) p q = (said ≡ v) × (place ≡ cpu) × ((t : Ticket) × (t.number ≡ number) × Calls v moment job (Ok t) p q)
  CallsAs v cpu moment job (line.Refused said place refusal) p q = (said ≡ v) × (place ≡ cpu) × ((r : Refused J) × (number_of r ≡ refusal) × Calls v moment job (Err r) p q)
  CallsAs v cpu moment job l p q = ⊥

  abbrev pub CallsOne : Verb → ℕ → ℕ → J → Line → ScriptProcessor J R → ScriptProcessor J R → Type 0
  CallsOne v cpu moment job l x y = WhileHere v cpu l (CallsAs v cpu moment job l) x y

  -- `call` and `lazy`
  abbrev pub IsCall : Verb → ℕ → ℕ → J → Line → List (ScriptProcessor J R) → List (ScriptProcessor J R) → Type 0
  IsCall v cpu moment job l olds news = InPlace v cpu l (CallsOne v cpu moment job l) olds news

module _ {J R : Type 0} where
  -- a report of a quiescent state, and what it answers
  abbrev pub Tells : Option ℕ → Processor J R → Processor J R → Type 0
  Tells answer p q = KeepsAll p.state q.state × Reports p.state.cpu answer (view_of p.state) (view_of q.state)

  abbrev pub TellsAs : ℕ → Line → Processor J R → Processor J R → Type 0
  TellsAs cpu (line.Counted place seq) p q = (place ≡ cpu) × Tells (Some seq) p q
  TellsAs cpu (line.Nothing place) p q = (place ≡ cpu) × Tells None p q
  TellsAs cpu l p q = ⊥

  abbrev pub TellsOne : ℕ → Line → ScriptProcessor J R → ScriptProcessor J R → Type 0
  TellsOne cpu l x y = WhileHere verb.Quiet cpu l (TellsAs cpu l) x y

  -- `quiet`
  abbrev pub IsQuiet : ℕ → Line → List (ScriptProcessor J R) → List (ScriptProcessor J R) → Type 0
  IsQuiet cpu l olds news = InPlace verb.Quiet cpu l (TellsOne cpu l) olds news

  -- a processor's turn, and how many callbacks it ran
  abbrev pub TicksAs : ℕ → ℕ → Line → Processor J R → Processor J R → Type 0
  TicksAs cpu moment (line.Ran v place ran) p q = (v ≡ verb.Tick) × (place ≡ cpu) × ((t : Ticked) × (t.ran ≡ ran) × TicksBy moment t p.state q.state)
  TicksAs cpu moment l p q = ⊥

  abbrev pub TicksOne : ℕ → ℕ → Line → ScriptProcessor J R → ScriptProcessor J R → Type 0
  TicksOne cpu moment l x y = WhileHere verb.Tick cpu l (TicksAs cpu moment l) x y

  -- `tick`
  abbrev pub IsTick : ℕ → ℕ → Line → List (ScriptProcessor J R) → List (ScriptProcessor J R) → Type 0
  IsTick cpu moment l olds news = InPlace verb.Tick cpu l (TicksOne cpu moment l) olds news

  -- it goes away; or it is here still, and refused by number 2, where its lane has no room for what its bypass list holds
  abbrev pub LeavesAs : ℕ → Line → Processor J R → ScriptProcessor J R → Type 0
  LeavesAs cpu (line.Left place) p (Away a) = (place ≡ cpu) × GoesAway p a
  LeavesAs cpu (line.Refused v place refusal) p (Here q) = (v ≡ verb.Leave) × (place ≡ cpu) × (refusal ≡ 2) × StaysHere p.state q.state
  LeavesAs cpu l p now = ⊥

  abbrev pub LeavesOne : ℕ → Line → ScriptProcessor J R → ScriptProcessor J R → Type 0
  LeavesOne cpu l (Here p) now = LeavesAs cpu l p now
  LeavesOne cpu l (Away a) now = (l ≡ line.Refused verb.Leave cpu 21) × (now ≡ Away a)

  -- `leave`
  abbrev pub IsLeave : ℕ → Line → List (ScriptProcessor J R) → List (ScriptProcessor J R) → Type 0
  IsLeave cpu l olds news = InPlace verb.Leave cpu l (LeavesOne cpu l) olds news

  -- it is back where it was away; one that is here is refused by number 22, and nothing changes
  abbrev pub ReturnsOne : ℕ → Line → ScriptProcessor J R → ScriptProcessor J R → Type 0
  ReturnsOne cpu l (Away a) now = (l ≡ line.Returned cpu) × ((q : Processor J R) × (now ≡ Here q) × ComesBack a.away q)
  ReturnsOne cpu l (Here p) now = (l ≡ line.Refused verb.Return cpu 22) × (now ≡ Here p)

  -- `return`
  abbrev pub IsReturn : ℕ → Line → List (ScriptProcessor J R) → List (ScriptProcessor J R) → Type 0
  IsReturn cpu l olds news = InPlace verb.Return cpu l (ReturnsOne cpu l) olds news

  -- ---- groups and hands

  -- `group`: there is a group's part where the group has an offloadable member
  abbrev pub IsGroup : ℕ → Line → List (Group J R) → List (Group J R) → Type 0
  IsGroup number (line.Group place took gave) olds news =
      (place ≡ number) × ((k : ℕ) × ChangesAt k (λ g h. (g.state.group ≡ number) × ((t : GroupTurn) × (t.took ≡ took) × (t.gave ≡ gave) × TurnsGroup t g.state h.state)) olds news)
  IsGroup number l olds news = All (λ g. g.state.group ≢ number) olds × (l ≡ line.Refused verb.Group number 6) × (news ≡ olds)

  -- the part in this place is that of the group of this number
  abbrev pub IsGroupAt : ℕ → ℕ → List (Group J R) → Type 0
  IsGroupAt place number groups = HoldsAt place (λ g. g.state.group ≡ number) groups

  -- the part in this place is the hand of this processor
  abbrev pub IsHandAt : ℕ → ℕ → List (Hand J R) → Type 0
  IsHandAt place cpu hands = HoldsAt place (λ h. h.state.hand.cpu ≡ cpu) hands

  -- `hand`, where so many processors are there: those that aren't offloadable have no hand
  abbrev pub IsHand : ℕ → ℕ → Line → List (Hand J R) → List (Hand J R) → Type 0
  IsHand n cpu (line.Ran v place ran) olds news =
      (v ≡ verb.Hand) × (place ≡ cpu) × ((k : ℕ) × ChangesAt k (λ h i. (h.state.hand.cpu ≡ cpu) × ((t : HandTurn) × (t.ran ≡ ran) × TurnsBy t h.state i.state)) olds news)
  IsHand n cpu l olds news = All (λ h. h.state.hand.cpu ≢ cpu) olds × (l ≡ line.Refused verb.Hand cpu (if nat_lt cpu n then 5 else 6)) × (news ≡ olds)

-- ---- driver and control

-- `driver`, on a board of so many processors
abbrev pub IsDriver : ℕ → Line → View → View → Type 0
IsDriver n (line.Driver t) v w = DrivesBy n t v w
IsDriver n l v w = ⊥

-- what the word of processor p that says whether it is to be offloaded becomes
abbrev pub asked_by : Verb → ℕ
asked_by verb.Offload = 1
asked_by v = 0

-- `offload` and `deoffload`
abbrev pub IsSwitch : Board → Verb → ℕ → Line → View → View → Type 0
IsSwitch b v cpu (line.Asked said place) old new = (said ≡ v) × (place ≡ cpu) × SwitchesBy b cpu (asked_by v) (Ok tt) old new
IsSwitch b v cpu (line.Refused said place refusal) old new =
    (said ≡ v) × (place ≡ cpu) × ((fault : SwitchFault) × (switch_number fault ≡ refusal) × SwitchesBy b cpu (asked_by v) (Err fault) old new)
IsSwitch b v cpu l old new = ⊥

-- `barrier`: the new barrier is the one that is open then
abbrev pub IsBarrier : ℕ → Line → View → View → Option Barrier → Type 0
IsBarrier n l v w still = (l ≡ line.Opened) × ((b : Barrier) × (still ≡ Some b) × OpensBy n [] (Ok b) v w)

-- `poll` of the barrier that is open, if one is: where it has passed it is open no longer
abbrev pub IsPoll : Option Barrier → Line → View → View → Option Barrier → Type 0
IsPoll opened line.NoBarrier v w still = (opened ≡ None) × (still ≡ None) × (w ≡ v)
IsPoll opened line.Passed v w still = (b : Barrier) × (opened ≡ Some b) × (still ≡ None) × ((passed : Passed) × PollsBy b.counts (Some passed) v w)
IsPoll opened line.Waits v w still = (b : Barrier) × (opened ≡ Some b) × (still ≡ opened) × PollsBy b.counts None v w
IsPoll opened l v w still = ⊥

-- `shut`: the final counts of all processors
abbrev pub IsShut : ℕ → Line → View → View → Type 0
IsShut n (line.Shut text) v w = (counts : Counts) × (counts.n ≡ n) × Shuts n counts v w × (string_bytes text ≡ with_commas (take counts.n counts.counts))
IsShut n l v w = ⊥

-- a barrier that is open counts as many processors as there are on this board
abbrev pub IsOfBoard : Board → Option Barrier → Type 0
IsOfBoard board opened = IfSome opened (λ b. board.processors ≡ b.counts.n)

-- the same, of the driver and of control themselves
abbrev pub TurnsDriver : Line → Driver → Driver → Type 0
TurnsDriver l old new = IsDriver (driver_board old).processors l (driver_view old) (driver_view new)

abbrev pub Switches : Verb → ℕ → Line → Control → Control → Type 0
Switches v cpu l old new = IsSwitch (control_board old) v cpu l (control_view old) (control_view new)

abbrev pub OpensBarrier : Line → Control → Control → Option Barrier → Type 0
OpensBarrier l old new still = IsBarrier (control_board old).processors l (control_view old) (control_view new) still

abbrev pub PollsBarrier : Option Barrier → Line → Control → Control → Option Barrier → Type 0
PollsBarrier opened l old new still = IsPoll opened l (control_view old) (control_view new) still

abbrev pub ShutsAll : Line → Control → Control → Type 0
ShutsAll l old new = IsShut (control_board old).processors l (control_view old) (control_view new)

-- ---- show

abbrev pub group_line : ℕ → Option Lists → List ℕ
group_line p None = []
group_line p (Some lists) = lists_line p lists

module _ {J R : Type 0} where
  -- What is shown of processor p by its group: None where no group has it as a member.
  abbrev pub ShownIn : ℕ → Option Lists → List (Group J R) → Type 0
  ShownIn p None groups = All (λ g. ShownFor p None (members_of g.state)) groups
  ShownIn p (Some lists) groups = Any (λ g. ShownFor p (Some lists) (members_of g.state)) groups

  -- the lines of processor k, here or away: of its own lists, and of those in its group if it has one
  abbrev pub ShowsOne : ℕ → ScriptProcessor J R → List (Group J R) → List ℕ → Type 0
  ShowsOne k x groups text = (group_member : Option Lists) × ShownIn k group_member groups × (text ≡ lists_line k (lists_shown x) ++ group_line k group_member)

  -- the lines of the processors k, k + 1, ..
  unfoldable pub ShowsFrom : ℕ → List (ScriptProcessor J R) → List (Group J R) → List ℕ → Type 0
  ShowsFrom k [] groups text = text ≡ []
  ShowsFrom k (x ∷ xs) groups text = (first rest : List ℕ) × ShowsOne k x groups first × ShowsFrom (suc k) xs groups rest × (text ≡ first ++ rest)
