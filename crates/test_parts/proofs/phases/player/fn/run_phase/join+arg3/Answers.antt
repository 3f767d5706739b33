use Rattle.test_parts.proofs.phases.player.fn.run_phase.join+arg3.Goals as goal

pub run_takers-requires-send-J : goal.run_takers-requires-send-J
run_takers-requires-send-J g c κs within = c.requires.0

pub run_takers-requires-sync-R : goal.run_takers-requires-sync-R
run_takers-requires-sync-R g c κs within = c.requires.1

pub run_takers-requires-after_bounds : goal.run_takers-requires-after_bounds
run_takers-requires-after_bounds g c κs within = (assumption, assumption)

pub returns : goal.returns
returns g c = (c.run_takers.ensures.groups, c.run_takers.ensures.hands)
