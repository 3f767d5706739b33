use Rattle.std.proofs.Common.{◌≡◌, refl, sym, ap, inr, ◌∙◌, arith}
use Rattle.std.specs.declared.result.Result.TheVariants.{Ok, Err}
use Rattle.rcu_c_slots.specs.Faults.{fault_number}
use Rattle.rcu_c_slots.specs.declared.fault.Fault.{Fault}
use Rattle.rcu_c_slots.specs.declared.fault.Fault.TheVariants.{Spent, Memory, Closed, Limit, NotOffloadable, NoProcessor, Ahead, Empty, Other, Running, NotRunning, Full, Foreign, Shape, Few, Reading, NoneLeft, Turn, Again, Away, NotAway}
use Rattle.rcu_c.proofs.open.rcuo_slot_close.Goals as goal

-- no fault has the number of what is done
no_fault : (fault : Fault) → fault_number fault ≡ 0 → ⊥
no_fault Spent e = omega (arith, e)
no_fault Memory e = omega (arith, e)
no_fault Closed e = omega (arith, e)
no_fault Limit e = omega (arith, e)
no_fault NotOffloadable e = omega (arith, e)
no_fault NoProcessor e = omega (arith, e)
no_fault Ahead e = omega (arith, e)
no_fault Empty e = omega (arith, e)
no_fault Other e = omega (arith, e)
no_fault Running e = omega (arith, e)
no_fault NotRunning e = omega (arith, e)
no_fault Full e = omega (arith, e)
no_fault Foreign e = omega (arith, e)
no_fault Shape e = omega (arith, e)
no_fault Few e = omega (arith, e)
no_fault Reading e = omega (arith, e)
no_fault NoneLeft e = omega (arith, e)
no_fault Turn e = omega (arith, e)
no_fault Again e = omega (arith, e)
no_fault Away e = omega (arith, e)
no_fault NotAway e = omega (arith, e)

pub returns-in-Ok-clause-tells : goal.returns-in-Ok-clause-tells
returns-in-Ok-clause-tells c = record { result = Ok tt; does = c.in-Ok.ensures.closes; answer_is = refl }

pub returns-in-Err-clause-tells : goal.returns-in-Err-clause-tells
returns-in-Err-clause-tells c = record { result = Err c.in-Err.fault; does = c.in-Err.ensures.closes; answer_is = c.number.ensures }

pub returns-in-Err-clause-there : goal.returns-in-Err-clause-there
returns-in-Err-clause-there c = λ done. absurd (no_fault c.in-Err.fault (sym c.number.ensures ∙ done))

pub returns-in-Err-clause-memory : goal.returns-in-Err-clause-memory
returns-in-Err-clause-memory c = λ there. inr (c.number.ensures ∙ ap fault_number (c.in-Err.ensures.memory there))
