use Rattle.check_memory.proofs.steps.Progress.repeat.Given as goal

abbrev pub invariant-loop : goal.invariant-loop
invariant-loop g l = g.M.Machine.holds l.machine
