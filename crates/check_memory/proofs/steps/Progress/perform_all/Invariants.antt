use Rattle.check_memory.proofs.steps.Progress.perform_all.Given as goal

abbrev pub invariant-loop-steps : goal.invariant-loop-steps
invariant-loop-steps g l = g.M.Machine.holds l.machine
