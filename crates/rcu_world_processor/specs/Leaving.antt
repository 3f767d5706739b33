-- What is left of a processor
use Rattle.std.specs.Prelude.{◌≡◌, ℕ, ◌+◌, ◌/◌, ◌≤◌, List, length, map}
use Rattle.rcu_numbers.specs.declared.shape.TheConstants.{MOST_CALLBACKS}
use Rattle.rcu_world_law.specs.States.{Cpu}
use Rattle.rcu_world_law.specs.Places.{key_of, remaining_callbacks}

-- the keys of what is left of a processor, place after place
abbrev pub left_keys : Cpu → List ℕ
left_keys c = map key_of (remaining_callbacks c)

-- what was accepted ran or is left
pub record IsCounted (c : Cpu) : Type 0 where
  pub count : c.count ≡ (c.turn + 1) / 2 + length (remaining_callbacks c)
  pub few : c.count ≤ MOST_CALLBACKS
