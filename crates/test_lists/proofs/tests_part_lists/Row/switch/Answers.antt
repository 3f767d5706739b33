use Rattle.std.proofs.Common.{arith}
use Rattle.rcu_part_lists.specs.ProcessorLists.{holding, held_in, put_by}
use Rattle.test_lists.proofs.Rows.{below-before}
use Rattle.test_lists.proofs.tests_part_lists.Row.switch.Goals as goal

pub switch-requires : goal.switch-requires
switch-requires c = let s = c.args.self.now in (omega arith, below-before s.called (put_by (holding s.processor_lists)) (held_in (holding s.processor_lists)) s.below)
