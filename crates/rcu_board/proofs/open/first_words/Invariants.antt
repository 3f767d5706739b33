use Rattle.std.proofs.Common.{◌≡◌}
use Rattle.rcu_board.specs.Views.{first_from}
use Rattle.rcu_board.proofs.open.first_words.Given as goal

abbrev pub invariant-loop-i : goal.invariant-loop-i
invariant-loop-i l = l.words.items ≡ first_from l.shape.offloadable 0 l.i
