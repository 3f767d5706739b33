-- A core at rest that stays a world is at rest.
use Rattle.std.proofs.Common.{ℕ, arith}
use Rattle.rcu_world.specs.Stays.{StaysWorld}
use Rattle.rcu_world.specs.declared.cores.Core.{Core}
use Rattle.test_world.specs.Resting.{IsResting}

pub rests : {J R : Type 0} (key_of : J → ℕ) (gives : ℕ → R → Type 0) (old new : Core J R) → IsResting key_of gives old → StaysWorld key_of gives old new → IsResting key_of gives new
rests key_of gives old new h s = record { world = s.kept; rest = s.rest h.rest; there = let many = s.len in let some = h.there in omega (arith, many, some) }
