use Rattle.std.proofs.Common.{arith}
use Rattle.rcu_part_processor.proofs.processor.Processor.reports.Goals as goal

pub overflow_add-result : goal.overflow_add-result
overflow_add-result g c = let small = c.args.self.now.state.since.small in omega arith

pub returns : goal.returns
returns g c = let word = c.args.self.now.state.since.word in omega arith
