-- What a turn of the driver did, by its answer: docs/specification/rules.md, "The calls, step by step", `Driver::turn`.
use Rattle.std.specs.Prelude.{◌≡◌, ◌≢◌, ℕ, ◌+◌, ◌<◌, ◌≤◌}
use Rattle.rcu_numbers.specs.declared.sequence.TheConstants.{LAST_NUMBER}
use Rattle.rcu_numbers.specs.Numbers.{IsIdle, IsInProgress}
use Rattle.rcu_board.specs.Words.{board_word, needed_word, reports_word, period_of, away_of}
use Rattle.rcu_board.specs.Seats.{AllAccounted}
use Rattle.rcu_board.specs.Frames.{StepsWithin}
use Rattle.rcu_board.specs.Views.{sight, seen_at}
use Rattle.rcu_board.specs.Plays.{touched, looked}
use Rattle.rcu_board.specs.declared.view.View.{View}
use Rattle.rcu_jobs.specs.declared.DriverTurn.{DriverTurn}
use Rattle.rcu_jobs.specs.declared.DriverTurn.TheVariants.{Idle, Started, Ended, Waits, Spent}

-- The round of a grace period that is in progress has seen of each of the first k processors that it was accounted for.
abbrev pub HasSeen : ℕ → View → Type 0
HasSeen k v = IsInProgress (sight v) → AllAccounted k (sight v) v

-- ---- on an idle number, which the view has

-- `asked` was read in the word of what is needed, and it isn't above the number
pub record Rested (v w : View) : Type 0 where
  pub asked : ℕ
  pub served : asked ≤ sight v
  pub steps : w ≡ touched needed_word asked v

-- Grace period s was asked for, and started.
pub record Began (s : ℕ) (v w : View) : Type 0 where
  pub asked : ℕ
  pub next : s ≡ sight v + 1
  pub needed : s ≤ asked
  pub steps : w ≡ touched board_word s (touched needed_word asked v)

-- a grace period was asked for that can't be numbered
pub record HasSpent (v w : View) : Type 0 where
  pub asked : ℕ
  pub needed : sight v < asked
  pub spent : LAST_NUMBER ≤ sight v
  pub steps : w ≡ touched needed_word asked v

abbrev pub BeginsBy : DriverTurn → View → View → Type 0
BeginsBy Idle v w = Rested v w
BeginsBy (Started s) v w = Began s v w
BeginsBy (Ended s) v w = ⊥
BeginsBy (Waits p) v w = ⊥
BeginsBy Spent v w = HasSpent v w

-- ---- on a number in progress, which the view has

-- on a board for n processors: after a round over their report words each was accounted for in the grace period, and it was ended, which makes the number s
pub record Concluded (n s : ℕ) (v w : View) : Type 0 where
  pub next : s ≡ sight v + 3
  pub seen : View
  pub round : StepsWithin reports_word n v seen
  pub all : AllAccounted n (sight v) seen
  pub steps : w ≡ touched board_word s seen

-- processor p was last seen here, and not accounted for in the grace period s
pub record SawOwing (p s : ℕ) (w : View) : Type 0 where
  pub here : away_of (seen_at w (reports_word p)) ≡ 0
  pub owes : period_of (seen_at w (reports_word p)) ≢ s

-- on a board for n processors: p is the first of those that the round hasn't seen accounted for
pub record WaitsFor (n p : ℕ) (v w : View) : Type 0 where
  pub there : p < n
  pub round : StepsWithin reports_word n v w
  pub before : AllAccounted p (sight v) w
  pub owing : SawOwing p (sight v) w

abbrev pub ConcludesBy : ℕ → DriverTurn → View → View → Type 0
ConcludesBy n Idle v w = ⊥
ConcludesBy n (Started s) v w = ⊥
ConcludesBy n (Ended s) v w = Concluded n s v w
ConcludesBy n (Waits p) v w = WaitsFor n p v w
ConcludesBy n Spent v w = ⊥

-- ---- a turn, on a board for n processors

-- The look read the number that the driver knew; then came the steps that this number allows.
pub record DrivesBy (n : ℕ) (answer : DriverTurn) (v w : View) : Type 0 where
  pub idle : IsIdle (sight v) → BeginsBy answer (looked (sight v) v) w
  pub busy : IsInProgress (sight v) → ConcludesBy n answer (looked (sight v) v) w
