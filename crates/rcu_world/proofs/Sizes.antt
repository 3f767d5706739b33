-- A processor fits in memory, since the core has a place for one
use Rattle.std.proofs.Common.{ℕ, max, ◌+◌, ◌<◌, ◌≤◌, Bool, true, false, ◌&&◌, ◌≡◌, refl, arith}
use Rattle.std.specs.Mem.{FitsInMemory}
use denote.RattleType.{RattleType}
use prog.Memory.{up}
use Rattle.rcu_world_processor.specs.contracts.processor.WorldProcessor as processor
use Rattle.rcu_world.specs.contracts.cores.Core as core

in_struct : (a off x : ℕ) → up a (off + x) < 9223372036854775808 → x < 9223372036854775808
in_struct a off x h = omega arith

-- the variants of an Option lie over one another
in_option : (a off x : ℕ) → up a (max 1 (max (off + x) 1)) < 9223372036854775808 → x < 9223372036854775808
in_option a off x h = omega arith

pub processor_fits : (J R : RattleType) → FitsInMemory (core.the_row J R) → FitsInMemory (processor.the_row J R)
processor_fits J R h = in_option _ _ _ (in_struct _ _ _ (in_struct _ _ _ h))

-- both tests of an event hold
pub first_holds : (a b : Bool) → (a && b) ≡ true → a ≡ true
first_holds true b h = refl
first_holds false b h = h

pub second_holds : (a b : Bool) → (a && b) ≡ true → b ≡ true
second_holds a true h = refl
second_holds true false h = h
second_holds false false h = h

-- a test of an event fails
pub second_fails : (a b : Bool) → b ≡ false → (a && b) ≡ false
second_fails true b h = h
second_fails false b h = refl

-- a test that fails doesn't hold
pub never : {A : Type 0} → false ≡ true → A
never e = absurd cc

-- a turn has room for its next steps
pub turn_small : {turn : ℕ} → turn ≤ 2000000 → turn < 9223372036854775808
turn_small t = omega arith
