use Rattle.std.proofs.Common.{refl}
use Rattle.std.specs.declared.result.Result.TheVariants.{Ok, Err}
use Rattle.rcu_c.proofs.calls.rcuo_slot_start_poll.Goals as goal

pub returns-in-Ok-clause-tells : goal.returns-in-Ok-clause-tells
returns-in-Ok-clause-tells c = record { result = Ok c.in-Ok.number; does = c.in-Ok.ensures; answer_is = refl; gives = refl }

pub returns-in-Err-clause-tells : goal.returns-in-Err-clause-tells
returns-in-Err-clause-tells c = record { result = Err c.in-Err.fault; does = c.in-Err.ensures; answer_is = c.number.ensures; gives = tt }
