use Rattle.test_parts.proofs.phases.player.fn.run_takers.join+arg2.Goals as goal

pub turn_groups-requires-after_bounds : goal.turn_groups-requires-after_bounds
turn_groups-requires-after_bounds g c κs within = assumption
