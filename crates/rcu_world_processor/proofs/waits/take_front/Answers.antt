use Rattle.std.proofs.Common.{◌≡◌, rules, arith}
use Rattle.rcu_lists.specs.Labels.{count, is_done}
use Rattle.rcu_lists.specs.Segments.{labelled}
use Rattle.rcu_world_processor.proofs.Waiting.{none_done}
use Rattle.rcu_world_processor.proofs.waits.take_front.Goals as goal

pub unreachable-requires : goal.unreachable-requires
unreachable-requires g c = let e : count is_done (labelled c.args.list.now) ≡ 0 = search rules in
    let z = (none_done g.J.Job.key_of (labelled c.args.list.now) 0 e).1 in omega (arith, z, c.requires)
