use Rattle.std.proofs.Common.{◌≡◌, ◌++◌, string_bytes}
use Rattle.rcu_status.specs.Totals.{totals_text}
use Rattle.rcu_status.proofs.closed.processors.Given as goal

-- what is written, and the lines that are still to come, are the whole
abbrev pub invariant-loop-p : goal.invariant-loop-p
invariant-loop-p g l =
    string_bytes l.text ++ totals_text l.p-iterator.count l.p-iterator.iter.a.rest.now l.p-iterator.iter.b.rest.now ≡ totals_text 0 l.closed.ran.items l.closed.back.items
