use Rattle.test_parts.proofs.phases.player.fn.run_takers.join+arg3.Goals as goal

pub turn_hands-requires-after_bounds : goal.turn_hands-requires-after_bounds
turn_hands-requires-after_bounds g c κs within = assumption
