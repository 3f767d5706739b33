use Rattle.std.proofs.Common.{refl}
use Rattle.std.specs.declared.result.Result.TheVariants.{Ok, Err}
use Rattle.rcu_c.proofs.calls.rcuo_slot_return.Goals as goal

pub returns-in-Ok : goal.returns-in-Ok
returns-in-Ok c = record { result = Ok tt; does = c.in-Ok.ensures; answer_is = refl; gives = tt }

pub returns-in-Err : goal.returns-in-Err
returns-in-Err c = record { result = Err c.in-Err.fault; does = c.in-Err.ensures; answer_is = c.number.ensures; gives = tt }
