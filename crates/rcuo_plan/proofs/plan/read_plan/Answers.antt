use Rattle.std.proofs.Common.{Option, Some, None, IfSome}
use Rattle.rcuo_plan.proofs.plan.read_plan.Goals as goal

of_all : {A : Type 0} {P : A → Type 0} (o : Option A) → ((a : A) → P a) → IfSome o P
of_all None all = tt
of_all (Some a) all = all a

pub returns-in-Err-clause-fault : goal.returns-in-Err-clause-fault
returns-in-Err-clause-fault g c = of_all (g.R.Read.remaining c.args.reader.now) c.refused.ensures.fault
