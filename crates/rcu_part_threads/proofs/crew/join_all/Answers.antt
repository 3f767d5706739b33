use Rattle.std.proofs.Common.{rules}
use Rattle.std.specs.Prelude.{vec_len}
use Rattle.rcu_part_threads.proofs.Kept.{keeps_all}
use Rattle.rcu_part_threads.proofs.crew.join_all.Goals as goal

pub returns-in-None-clause-kept : goal.returns-in-None-clause-kept
returns-in-None-clause-kept g c = keeps_all g.P.Promise (vec_len c.args.crew.threads) c.args.crew.threads.items c.in-Ok.parts.items (search rules) (search rules) c.in-Ok.ensures.each
