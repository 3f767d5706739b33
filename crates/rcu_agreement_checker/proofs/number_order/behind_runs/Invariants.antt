use Rattle.std.proofs.Common.{◌≤◌, length}
use Rattle.rcu_agreement_checker.proofs.number_order.behind_runs.Given as goal

abbrev pub invariant-loop-p : goal.invariant-loop-p
invariant-loop-p l = l.behind ≤ length l.history
