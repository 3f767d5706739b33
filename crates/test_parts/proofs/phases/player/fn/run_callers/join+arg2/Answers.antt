use Rattle.test_parts.proofs.phases.player.fn.run_callers.join+arg2.Goals as goal

pub act_all-requires-send-J : goal.act_all-requires-send-J
act_all-requires-send-J g c κs within = c.requires

pub act_all-requires-after_bounds : goal.act_all-requires-after_bounds
act_all-requires-after_bounds g c κs within = assumption

pub returns : goal.returns
returns g c = c.act_all.ensures
