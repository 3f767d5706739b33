use Rattle.std.proofs.Common.{take}
use Rattle.rcu_lists.proofs.Stamps.{Known}
use Rattle.rcu_lists.proofs.newest.stamps_behind.Given as goal

abbrev pub invariant-loop-place : goal.invariant-loop-place
invariant-loop-place g l = Known l.fn.in_order l.still l.fn.last l.newest (take l.place-index l.places)
