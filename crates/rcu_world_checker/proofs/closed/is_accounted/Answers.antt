use Rattle.std.proofs.Common.{arith, length, ◌<◌, rules}
use Rattle.rcu_world_checker.proofs.Settling.{few_ended}
use Rattle.rcu_world_checker.proofs.closed.is_accounted.Goals as goal

pub overflow_add-result : goal.overflow_add-result
overflow_add-result c = let l : length c.args.history.now < 18446744073709551616 = search rules in omega (arith, few_ended c.args.p c.args.history.now, c.many_of-ran.ensures, c.many_of-back.ensures)
