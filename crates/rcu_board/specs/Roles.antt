-- Who a seat is, and who may make which step: docs/specification/tables.md, "Kinds of atomic step".
use Rattle.std.specs.Prelude.{◌≡◌, ℕ, ◌+◌, ◌*◌, ◌<◌, ◌≤◌, true, [], ◌∷◌, length}
use Rattle.rcu_numbers.specs.declared.sequence.TheConstants.{LAST_NUMBER}
use Rattle.atomic_table.specs.Table.{Me}
use Rattle.rcu_board.specs.Words.{words_of}
use Rattle.rcu_board.specs.Views.{sight, cpus}
use Rattle.rcu_board.specs.declared.board.Role.{Role}
use Rattle.rcu_board.specs.declared.board.Role.TheVariants.{Processor, Hand, Group, Driver, Control}
use Rattle.rcu_board.specs.declared.view.View.{View}

-- a seat that can step, on a board of so many words
pub record CanStep (words : ℕ) (m : Me ℕ View) : Type 0 where
  pub carries_nothing : m.1 ≡ []
  pub live : 0 < m.0.weight
  pub small : sight m.0 ≤ LAST_NUMBER
  pub seen_long : length m.0.seen ≡ words
  pub steps_long : length m.0.steps ≡ words

-- what a seat of this role has besides: its processor is one of the board's
pub record SeatOfRole (role : Role) (words : ℕ) (m : Me ℕ View) : Type 0 where
  pub can_step : CanStep words m
  pub processor : (p : ℕ) → role ≡ Processor p → words_of (p + 1) ≤ words
  pub hand : (p : ℕ) → role ≡ Hand p → words_of (p + 1) ≤ words
  pub own : (p : ℕ) → role ≡ Processor p → cpus m.0.own ≡ p ∷ []
  pub driver : role ≡ Driver → m.0.drives ≡ true
  pub control : role ≡ Control → m.0.controls ≡ true

-- the first seat, before it has given all others
pub record FirstSeat (words : ℕ) (m : Me ℕ View) : Type 0 where
  pub can_step : CanStep words m
  pub driver : m.0.drives ≡ true

abbrev pub IsProcessor : Role → Type 0
IsProcessor (Processor p) = Unit {0}
IsProcessor (Hand p) = ⊥
IsProcessor (Group g) = ⊥
IsProcessor Driver = ⊥
IsProcessor Control = ⊥

abbrev pub IsDriver : Role → Type 0
IsDriver (Processor p) = ⊥
IsDriver (Hand p) = ⊥
IsDriver (Group g) = ⊥
IsDriver Driver = Unit {0}
IsDriver Control = ⊥

abbrev pub IsControl : Role → Type 0
IsControl (Processor p) = ⊥
IsControl (Hand p) = ⊥
IsControl (Group g) = ⊥
IsControl Driver = ⊥
IsControl Control = Unit {0}

-- a processor, a group or control
abbrev pub MayNeed : Role → Type 0
MayNeed (Processor p) = Unit {0}
MayNeed (Hand p) = ⊥
MayNeed (Group g) = Unit {0}
MayNeed Driver = ⊥
MayNeed Control = Unit {0}

-- a processor or control
abbrev pub MayCount : Role → Type 0
MayCount (Processor p) = Unit {0}
MayCount (Hand p) = ⊥
MayCount (Group g) = ⊥
MayCount Driver = ⊥
MayCount Control = Unit {0}

-- a processor or a hand
abbrev pub MayClaim : Role → Type 0
MayClaim (Processor p) = Unit {0}
MayClaim (Hand p) = Unit {0}
MayClaim (Group g) = ⊥
MayClaim Driver = ⊥
MayClaim Control = ⊥

-- all but control
abbrev pub MayHalt : Role → Type 0
MayHalt (Processor p) = Unit {0}
MayHalt (Hand p) = Unit {0}
MayHalt (Group g) = Unit {0}
MayHalt Driver = Unit {0}
MayHalt Control = ⊥

-- the processor whose seat or hand it is
abbrev pub cpu_of_role : Role → ℕ
cpu_of_role (Processor p) = p
cpu_of_role (Hand p) = p
cpu_of_role (Group g) = 0
cpu_of_role Driver = 0
cpu_of_role Control = 0

-- a role of a seat that has neither a processor's lists nor a flag, on a board for n processors
abbrev pub IsPlain : ℕ → Role → Type 0
IsPlain n (Processor p) = ⊥
IsPlain n (Hand p) = p < n
IsPlain n (Group g) = Unit {0}
IsPlain n Driver = ⊥
IsPlain n Control = ⊥
