use Rattle.test_parts.specs.Company.{CompanyKeeps}
use Rattle.test_parts.proofs.phases.player.run_phases.Given as goal

abbrev pub invariant-loop-phase : goal.invariant-loop-phase
invariant-loop-phase g l = CompanyKeeps g.J.Job.key_of g.J.Job.gives l.fn.company l.company
