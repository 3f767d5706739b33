use Rattle.check_memory.proofs.steps.Progress.perform.Given as goal

abbrev pub invariant-loop-times : goal.invariant-loop-times
invariant-loop-times g l = g.M.Machine.holds l.machine
