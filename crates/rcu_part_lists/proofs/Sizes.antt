-- A part of a struct fits in memory where the struct does.
use Rattle.std.proofs.Common.{ℕ, ◌+◌, ◌<◌, arith}
use Rattle.std.specs.Mem.{FitsInMemory}
use denote.RattleType.{RattleType}
use prog.Memory.{up}
use Rattle.rcu_lists.specs.contracts.batch.Batch as batch_row
use Rattle.rcu_lists.specs.contracts.bypass.Bypass as bypass_row
use Rattle.rcu_part_lists.specs.contracts.processor_lists.ProcessorLists as caller_row
use Rattle.rcu_part_lists.specs.contracts.hand.Held as held_row
use Rattle.rcu_part_lists.specs.contracts.member_lists.MemberLists as member_row

-- the last field
pub in_struct : (a off x : ℕ) → up a (off + x) < 9223372036854775808 → x < 9223372036854775808
in_struct a off x h = omega arith

-- what a member, a hand and a processor are made of
pub member-batch : (R : RattleType) → FitsInMemory (member_row.the_row R) → FitsInMemory (batch_row.the_row R)
member-batch R h = in_struct _ _ _ h

pub held-batch : (R : RattleType) → FitsInMemory (held_row.the_row R) → FitsInMemory (batch_row.the_row R)
held-batch R h = in_struct _ _ _ h

pub processor_lists-bypass : (R : RattleType) → FitsInMemory (caller_row.the_row R) → FitsInMemory (bypass_row.the_row R)
processor_lists-bypass R h = in_struct _ _ _ h
