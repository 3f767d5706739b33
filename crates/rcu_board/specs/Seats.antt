-- Words for the clauses of steps.
use Rattle.std.specs.Prelude.{◌≡◌, ℕ, ◌+◌, ◌/◌, ◌%◌, ◌<◌, ◌≤◌, List, [], ◌∷◌, length, Option, None}
use Rattle.rcu_numbers.specs.declared.shape.TheConstants.{MOST_CALLS}
use Rattle.rcu_numbers.specs.Words.{owes_of}
use Rattle.rcu_board.specs.Words.{halt_word, accepts_word, turns_word, reports_word, period_of, away_of}
use Rattle.rcu_board.specs.Views.{seen_at, sight, fresh_count}
use Rattle.rcu_board.specs.Memory.{id_of}
use Rattle.rcu_board.specs.Roles.{IsProcessor, cpu_of_role}
use Rattle.rcu_board.specs.declared.board.Role.{Role}
use Rattle.rcu_board.specs.declared.board.Board.{Board}
use Rattle.rcu_board.specs.declared.board.Seat.{Seat}
use Rattle.rcu_board.specs.declared.board.Maker.{Maker}
use Rattle.rcu_board.specs.declared.board.Gathered.{Gathered}
use Rattle.rcu_board.specs.declared.view.Own.{Own}
use Rattle.rcu_board.specs.declared.view.Claim.{Claim}
use Rattle.rcu_board.specs.declared.view.Accepted.{Accepted}
use Rattle.rcu_board.specs.declared.view.View.{View}

abbrev pub view : Seat → View
view s = s.seat.me.0

-- the seat is one of this board
abbrev pub AtBoard : Board → Seat → Type 0
AtBoard b s = s.seat.table_id ≡ id_of b.words

-- the view has seen that processor p was shut
abbrev pub SawShut : ℕ → View → Type 0
SawShut p v = seen_at v (accepts_word p) % 2 ≡ 1

-- the view has last seen the halt word set
abbrev pub SawHalt : View → Type 0
SawHalt v = seen_at v halt_word ≡ 1

-- no sight is below what it was, on a board for n processors, and one that saw a processor shut stays as it is
pub record NeverFalls (n : ℕ) (v w : View) : Type 0 where
  pub board : sight v ≤ sight w
  pub needed : seen_at v 1 ≤ seen_at w 1
  pub accepts : (p : ℕ) → p < n → seen_at v (accepts_word p) ≤ seen_at w (accepts_word p)
  pub turns : (p : ℕ) → p < n → seen_at v (turns_word p) ≤ seen_at w (turns_word p)
  pub reports : (p : ℕ) → p < n → period_of (seen_at v (reports_word p)) ≤ period_of (seen_at w (reports_word p))
  pub shut : (p : ℕ) → p < n → SawShut p v → seen_at w (accepts_word p) ≡ seen_at v (accepts_word p)

-- it is the same seat, and whatever it knows besides, none of its sights has fallen
pub record SameSeat (s t : Seat) : Type 0 where
  pub role : t.role ≡ s.role
  pub table : t.seat.table_id ≡ s.seat.table_id
  pub weight : (view t).weight ≡ (view s).weight
  pub later : (b : Board) → AtBoard b s → NeverFalls b.processors (view s) (view t)

-- ---- the processor whose seat it is

abbrev pub first_word : List Own → ℕ
first_word [] = 0
first_word (o ∷ os) = o.word

-- what a processor's seat knows of its own report word
abbrev pub own_word : View → ℕ
own_word v = first_word v.own

-- how many grace periods the processor passed, as far as it knows: the numbers 1, 5, .. up to that of its report word
abbrev pub reports_of : View → ℕ
reports_of v = (period_of (own_word v) + 3) / 4

abbrev pub IsAway : View → Type 0
IsAway v = away_of (own_word v) ≡ 1

abbrev pub IsHere : View → Type 0
IsHere v = away_of (own_word v) ≡ 0

-- the driver has seen of every processor that it was accounted for in the grace period seq
abbrev pub AllAccounted : ℕ → ℕ → View → Type 0
AllAccounted n seq v = (p : ℕ) → p < n → period_of (seen_at v (reports_word p)) ≡ seq

abbrev pub first_accepted : List Own → List Accepted
first_accepted [] = []
first_accepted (o ∷ os) = o.accepted

-- the accepted numbers that have a stamp, with their keys
abbrev pub accepted_of : View → List Accepted
accepted_of v = first_accepted v.own

abbrev pub first_fresh : List Own → Option ℕ
first_fresh [] = None
first_fresh (o ∷ os) = o.fresh

-- the key of the accepted number that has none yet
abbrev pub fresh_of : View → Option ℕ
fresh_of v = first_fresh v.own

-- how many were accepted, of which the last may have no stamp yet
abbrev pub count_of_own : View → ℕ
count_of_own v = length (accepted_of v) + fresh_count (fresh_of v)

-- ---- claims

abbrev pub first_number : List Claim → ℕ
first_number [] = 0
first_number (c ∷ cs) = c.number

-- the number whose claim runs
abbrev pub running_number : View → ℕ
running_number v = first_number v.running

-- one claim runs, on processor p
pub record IsRunning (p : ℕ) (v : View) : Type 0 where
  pub claim : Claim
  pub alone : v.running ≡ claim ∷ []
  pub cpu : claim.cpu ≡ p
  pub small : claim.number < MOST_CALLS

-- ---- urging

-- a processor that is offloadable
abbrev pub MayHear : Board → Role → Type 0
MayHear b r = IsProcessor r × (owes_of b.offloadable (cpu_of_role r) ≡ 1)

-- ---- the seat that makes the others, and the one that takes them in

abbrev pub maker_view : Maker → View
maker_view s = s.seat.me.0

abbrev pub MakerAt : Board → Maker → Type 0
MakerAt b s = s.seat.table_id ≡ id_of b.words

abbrev pub gathered_view : Gathered → View
gathered_view s = s.seat.me.0

abbrev pub GatheredAt : Board → Gathered → Type 0
GatheredAt b s = s.seat.table_id ≡ id_of b.words

abbrev pub SameGathered : Gathered → Gathered → Type 0
SameGathered s t = t.seat.table_id ≡ s.seat.table_id
