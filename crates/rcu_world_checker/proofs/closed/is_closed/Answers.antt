use Rattle.rcu_world_law.proofs.Law.{sound_whole}
use Rattle.rcu_world_checker.proofs.closed.is_closed.Goals as goal

pub is_settled-requires : goal.is_settled-requires
is_settled-requires c = record { ordered = (sound_whole c.args.n c.args.history.now (c.is_lawful.ensures.0 c.if-is_lawful.true)).ordered }
