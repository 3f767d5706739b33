-- A seat that went through some steps.
use Rattle.std.specs.Prelude.{◌≡◌, ℕ, ◌+◌, ◌*◌, None}
use Rattle.rcu_board.specs.Views.{tally}
use Rattle.rcu_board.specs.Seats.{view, fresh_of, own_word}
use Rattle.rcu_board.specs.declared.board.Role.TheVariants.{Processor}
use Rattle.rcu_board.specs.declared.board.Seat.{Seat}

-- it is the same seat, whatever it knows by now
pub record StaysSeat (s t : Seat) : Type 0 where
  pub role : t.role ≡ s.role
  pub table : t.seat.table_id ≡ s.seat.table_id
  pub weight : (view t).weight ≡ (view s).weight

-- it made so many steps on word i
abbrev pub HasStepped : ℕ → ℕ → Seat → Seat → Type 0
HasStepped i many s t = tally (view t) i ≡ tally (view s) i + many

-- the seat of processor 0, which is here and can report: `passed` is the last grace period that it passed
pub record Reports (s : Seat) (passed : ℕ) : Type 0 where
  pub role : s.role ≡ Processor 0
  pub stamped : fresh_of (view s) ≡ None
  pub here : own_word (view s) ≡ 2 * passed
