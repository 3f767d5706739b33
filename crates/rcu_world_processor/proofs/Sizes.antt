-- A batch and a bypass list fit in memory where the struct that has them does.
use Rattle.std.proofs.Common.{ℕ, ◌+◌, ◌<◌, ◌≤◌, max, arith}
use Rattle.std.specs.Mem.{FitsInMemory}
use denote.Param.{param}
use denote.RattleType.{RattleType}
use prog.Memory.{up}
use Rattle.rcu_lists.specs.contracts.batch.Batch as batch_row
use Rattle.rcu_lists.specs.contracts.bypass.Bypass as bypass_row
use Rattle.rcu_world_processor.specs.contracts.processor.WorldProcessor as row

-- the last field, the one before it, and the third from the end
in_struct : (a off x : ℕ) → up a (off + x) < 9223372036854775808 → x < 9223372036854775808
in_struct a off x h = omega arith

in_struct_before : (a b off x y : ℕ) → up a (up b (off + x) + y) < 9223372036854775808 → x < 9223372036854775808
in_struct_before a b off x y h = omega arith

in_third : (a b c d off x y z : ℕ) → up a (up b (up c (up d off + x) + y) + z) < 9223372036854775808 → x < 9223372036854775808
in_third a b c d off x y z h = omega arith

pub bypass_fits : (J R : RattleType) → FitsInMemory (row.the_row (param 0 J) (param 1 R)) → FitsInMemory (bypass_row.the_row (param 0 J))
bypass_fits J R h = in_struct _ _ _ h

pub batch_fits : (J R : RattleType) → FitsInMemory (row.the_row (param 0 J) (param 1 R)) → FitsInMemory (batch_row.the_row (param 0 J))
batch_fits J R h = in_struct_before _ _ _ _ _ h

pub held_fits : (J : RattleType) → FitsInMemory (bypass_row.the_row (param 0 J)) → FitsInMemory (batch_row.the_row (param 0 J))
held_fits J h = in_third _ _ _ _ _ _ _ _ h

-- the places of a batch that need no memory
pub slots_fit : (a b c d e f s : ℕ) → up a (up 8 (up 8 (up b 0 + up b (up c 0 + up c (max (up d 1 + up d (up 1 (up 8 (up e 0 + up e (up f 0 + s)) + 8) + 0)) 32))) + 8) + 8) < 9223372036854775808 → s < 9223372036854775808
slots_fit a b c d e f s h = omega arith

-- room for one more
pub one_fits : (n m : ℕ) → n + 1 ≤ m → n < m
one_fits n m h = omega arith
