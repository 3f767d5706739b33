use Rattle.rcu_lists.proofs.Outcomes.{if_ok_never}
use Rattle.test_parts.proofs.Keeping.{company_again, company_none}
use Rattle.test_parts.proofs.phases.player.run_phases.Goals as goal

pub loop-phase-init : goal.loop-phase-init
loop-phase-init g c = company_none g.J.Job.key_of g.J.Job.gives c.args.company

pub loop-phase-preserved : goal.loop-phase-preserved
loop-phase-preserved g c = company_again g.J.Job.key_of g.J.Job.gives c.args.company c.loop-phase.company c.in_ok-company.company c.loop-phase.invariant c.in_ok-company.ensures

pub run_phase-requires-send-J : goal.run_phase-requires-send-J
run_phase-requires-send-J g c κs within = assumption

pub run_phase-requires-sync-R : goal.run_phase-requires-sync-R
run_phase-requires-sync-R g c κs within = c.type_bounds.sync-R

pub run_phase-requires-after_bounds : goal.run_phase-requires-after_bounds
run_phase-requires-after_bounds g c κs within = (assumption, (assumption, assumption))

pub returns-in_err-company : goal.returns-in_err-company
returns-in_err-company g c = if_ok_never _ _ c.from_residual.ensures

pub returns : goal.returns
returns g c = c.loop-phase.invariant
