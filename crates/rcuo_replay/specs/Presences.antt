-- A processor of a script, which is here or away: docs/specification/rules.md, "Processors away".
use Rattle.std.specs.Prelude.{ℕ, ◌≡◌, ◌*◌, ◌≤◌, List, []}
use Rattle.std.specs.List.{AllZip}
use Rattle.rcu_board.specs.Plays.{return_own, stepped_own}
use Rattle.rcu_board.specs.Words.{reports_word}
use Rattle.rcu_jobs.specs.declared.turns.Lists.{Lists}
use Rattle.rcu_jobs.specs.declared.turns.Lists.TheVariants.{Cpu, Folk}
use Rattle.rcu_part_lists.specs.ProcessorLists.{cpu_lists}
use Rattle.rcu_part_processor.specs.Away.{IsSoundAway, KeepsLeaving, KeepsReturning, Leaves, away_identity, away_lists, away_view}
use Rattle.rcu_part_processor.specs.Processors.{IsSound, lists_of, view_of}
use Rattle.rcu_part_processor.specs.Running.{Identity, IsSamePart, identity}
use Rattle.rcu_part_processor.specs.declared.away.Away.{Away as AwayProcessor}
use Rattle.rcu_part_processor.specs.declared.processor.Processor.{Processor}
use Rattle.rcuo_replay.specs.declared.presence.Absent.{Absent}
use Rattle.rcuo_replay.specs.declared.presence.Presence.{Presence}
use Rattle.rcuo_replay.specs.declared.presence.Presence.TheVariants.{Away, Here}

-- what is shown once the bypass list is empty
abbrev pub without_bypass : Lists → Lists
without_bypass (Cpu mode accepted bypass lengths numbers) = Cpu mode accepted 0 lengths numbers
without_bypass (Folk lengths numbers) = Folk lengths numbers

-- for jobs of type J with receipts of type R
abbrev pub ScriptProcessor : Type 0 → Type 0 → Type 0
ScriptProcessor J R = Presence (Processor J R) (AwayProcessor J R)

module _ {J R : Type 0} where
  -- which part of which open it is
  abbrev pub presence_identity : ScriptProcessor J R → Identity J
  presence_identity (Here p) = identity p.state
  presence_identity (Away a) = away_identity a.away.state

  abbrev pub SamePresence : ScriptProcessor J R → ScriptProcessor J R → Type 0
  SamePresence x y = IsSamePart (presence_identity x) (presence_identity y)

  -- what it knows of jobs
  abbrev pub IsSoundPresence : (J → ℕ) → (ℕ → R → Type 0) → ScriptProcessor J R → Type 0
  IsSoundPresence key_of gives (Here p) = IsSound key_of gives p.state
  IsSoundPresence key_of gives (Away a) = IsSoundAway key_of gives a.away.state

  -- It stays the same part, and sound.
  pub record KeepsPresence (key_of : J → ℕ) (gives : ℕ → R → Type 0) (x y : ScriptProcessor J R) : Type 0 where
    pub same : SamePresence x y
    pub sound : IsSoundPresence key_of gives x → IsSoundPresence key_of gives y

  -- what is shown of its own lists, here or away
  abbrev pub lists_shown : ScriptProcessor J R → Lists
  lists_shown (Here p) = cpu_lists p.state.accepted (lists_of p.state)
  lists_shown (Away a) = a.lists

  -- It is away: no grace period waits for it. What its bypass list held is on its lane, all else stays with it, and is shown.
  pub record GoesAway (p : Processor J R) (a : Absent (AwayProcessor J R)) : Type 0 where
    pub leaves : Leaves p.state a.away.state
    pub keeps : KeepsLeaving p.state a.away.state
    pub empty : (away_lists a.away.state).outgoing.bypass ≡ []
    pub shown : a.lists ≡ cpu_lists a.away.state.accepted (away_lists a.away.state)

  -- It is back with all that it had, and has passed each grace period in which it was met.
  pub record ComesBack (a : AwayProcessor J R) (p : Processor J R) : Type 0 where
    pub keeps : KeepsReturning a.state p.state
    pub passed : view_of p.state ≡ stepped_own return_own (reports_word a.state.cpu) (2 * p.state.passed) (away_view a.state)
    pub later : a.state.passed ≤ p.state.passed

  abbrev pub IsHere : Processor J R → ScriptProcessor J R → Type 0
  IsHere p x = x ≡ Here p

  -- the processor itself, where it is here; and where it is away, the one that comes back
  abbrev pub IsBack : ScriptProcessor J R → Processor J R → Type 0
  IsBack (Here p) q = q ≡ p
  IsBack (Away a) q = ComesBack a.away q

  -- each processor that came back is the same part as in its place, and sound as it was
  abbrev pub KeepEachBack : (J → ℕ) → (ℕ → R → Type 0) → List (ScriptProcessor J R) → List (Processor J R) → Type 0
  KeepEachBack key_of gives xs ps = AllZip (λ x p. KeepsPresence key_of gives x (Here p)) xs ps
