use Rattle.rcu_world_checker.specs.Fits.{HaveRun}
use Rattle.rcu_world_checker.proofs.lawful.have_run.Given as goal

abbrev pub invariant-loop-place : goal.invariant-loop-place
invariant-loop-place l = HaveRun l.history l.place l.ran
