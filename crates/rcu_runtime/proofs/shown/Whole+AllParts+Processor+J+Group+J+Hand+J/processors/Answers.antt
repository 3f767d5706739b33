use Rattle.rcu_runtime.proofs.Seen.{as_many}
use Rattle.rcu_runtime.proofs.shown.Whole+AllParts+Processor+J+Group+J+Hand+J.processors.Goals as goal

pub returns : goal.returns
returns g c = as_many c.args.self.now c.self.inside.parts c.self.view_is c.len.result c.len.ensures
