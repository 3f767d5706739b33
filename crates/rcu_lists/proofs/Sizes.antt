-- A part of a struct fits in memory where the struct does.
use Rattle.std.proofs.Common.{ℕ, ◌+◌, ◌<◌, max, arith}
use Rattle.std.specs.Mem.{FitsInMemory}
use denote.RattleType.{RattleType}
use prog.Memory.{up}
use Rattle.rcu_lists.specs.contracts.batch.Batch as batch_row
use Rattle.rcu_lists.specs.contracts.bypass.Bypass as bypass_row

-- the first one of three fields
pub in_first : (a b c d x r s : ℕ) → up a (up b (up c (d + x) + r) + s) < 9223372036854775808 → x < 9223372036854775808
in_first a b c d x r s h = omega arith

-- the third field from the end
pub in_third : (a b c d off x y z : ℕ) → up a (up b (up c (up d off + x) + y) + z) < 9223372036854775808 → x < 9223372036854775808
in_third a b c d off x y z h = omega arith

-- the places that stand in a batch itself
pub in_places : (a b b' c d e f g h i j l m n o p q r s x : ℕ) → up a (up b (up b' (c + up d (e + up f (max (g + up h (up i (up j (l + up m (n + x)) + o) + p)) q))) + r) + s) < 9223372036854775808 → x < 9223372036854775808
in_places a b b' c d e f g h i j l m n o p q r s x k = omega arith

pub bypass-batch : (R : RattleType) → FitsInMemory (bypass_row.the_row R) → FitsInMemory (batch_row.the_row R)
bypass-batch R h = in_third _ _ _ _ _ _ _ _ h
