-- A seat that went through some steps.
use Rattle.std.specs.Prelude.{◌≡◌}
use Rattle.rcu_board.specs.Seats.{view}
use Rattle.rcu_board.specs.declared.board.Seat.{Seat}

-- it is the same seat, whatever it knows by now
pub record StaysSeat (s t : Seat) : Type 0 where
  pub role : t.role ≡ s.role
  pub table : t.seat.table_id ≡ s.seat.table_id
  pub weight : (view t).weight ≡ (view s).weight
