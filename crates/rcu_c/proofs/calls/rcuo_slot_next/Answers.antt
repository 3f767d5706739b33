use Rattle.std.proofs.Common.{refl}
use Rattle.std.specs.declared.result.Result.TheVariants.{Ok, Err}
use Rattle.rcu_c.proofs.calls.rcuo_slot_next.Goals as goal

pub returns-in-Ok-clause-tells : goal.returns-in-Ok-clause-tells
returns-in-Ok-clause-tells c = record { result = Ok c.next.new.begun; does = c.in-Ok.ensures.begins; answer_is = refl; gives = refl }

pub returns-in-Err-clause-tells : goal.returns-in-Err-clause-tells
returns-in-Err-clause-tells c = record { result = Err c.in-Err.fault; does = c.in-Err.ensures.begins; answer_is = c.number.ensures; gives = tt }
