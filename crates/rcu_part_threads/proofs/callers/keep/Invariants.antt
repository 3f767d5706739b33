use Rattle.std.proofs.Common.{◌≡◌, ◌++◌, take}
use Rattle.rcu_part_threads.specs.Dealing.{tickets_in}
use Rattle.rcu_part_threads.proofs.callers.keep.Given as goal

abbrev pub invariant-loop-answer : goal.invariant-loop-answer
invariant-loop-answer g l = l.tickets.items ≡ l.fn.tickets.items ++ tickets_in (take l.answer-index l.fn.one.answers.items)
