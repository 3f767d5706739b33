use Rattle.std.proofs.Common.{◌≡◌, ◌≤◌, ◌*◌, take}
use Rattle.rcu_status.specs.Totals.{receipts_of}
use Rattle.rcu_status.proofs.closed.receipts.Given as goal

abbrev pub invariant-loop-record : goal.invariant-loop-record
invariant-loop-record l = (l.sum ≡ receipts_of (take l.record-index l.ran)) × (l.sum ≤ 18446744073709551615 * l.record-index)
