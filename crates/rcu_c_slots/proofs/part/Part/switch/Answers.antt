use Rattle.std.proofs.Common.{refl, subst, sym}
use Rattle.std.specs.Int.{from_bool}
use Rattle.std.specs.declared.result.Result.TheVariants.{Err, Ok}
use Rattle.rcu_c_slots.specs.Others.{SwitchesPart}
use Rattle.rcu_c_slots.specs.declared.part.Part.TheVariants as part
use Rattle.rcu_c_slots.proofs.part.Part.switch.Goals as goal

pub returns-in-Ok : goal.returns-in-Ok
returns-in-Ok c = let d = c.switch_one.new.control in
    subst (λ old. SwitchesPart c.args.processor (from_bool c.args.on) (Ok tt) old (part.Control d)) (sym c.in-Control.is) (d, refl, c.in-Ok.ensures)

pub returns-in-Err : goal.returns-in-Err
returns-in-Err c = let d = c.switch_one.new.control in
    subst (λ old. SwitchesPart c.args.processor (from_bool c.args.on) (Err c.fault_of_switch.result) old (part.Control d)) (sym c.in-Control.is) (
      d,
      refl,
      record {
        refused = c.in-Err.fault;
        named = c.fault_of_switch.ensures;
        refuses = c.in-Err.ensures;
      },
    )
