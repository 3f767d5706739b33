use Rattle.std.proofs.Common.{◌∙◌}
use Rattle.rcu_c_slots.proofs.closing.close_kept.Goals as goal

pub close_again-requires-clause-owed : goal.close_again-requires-clause-owed
close_again-requires-clause-owed c = let t = c.take_part.ensures.takes in c.requires.owed t.0 c.in-Closing.closing t.1 (t.2 ∙ c.in-Closing.is)
