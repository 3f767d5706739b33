use Rattle.std.proofs.Common.{arith}
use Rattle.rcu_part_processor.proofs.in_place.ProcessorInPlace.left.Goals as goal

pub overflow_sub-result : goal.overflow_sub-result
overflow_sub-result g c = c.args.self.now.state.small.0

pub returns : goal.returns
returns g c = let small = c.args.self.now.state.small.0 in record { left = omega arith }
