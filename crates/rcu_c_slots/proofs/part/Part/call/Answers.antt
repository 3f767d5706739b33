use Rattle.std.proofs.Common.{ap, refl, subst, sym}
use Rattle.std.specs.declared.result.Result.TheVariants.{Err, Ok}
use Rattle.rcu_c_slots.specs.Processors.{CallsBy}
use Rattle.rcu_c_slots.specs.declared.part.Part.TheVariants as part
use Rattle.rcu_c_slots.proofs.part.Part.call.Goals as goal

pub returns-in-Ok : goal.returns-in-Ok
returns-in-Ok c = let q = c.call.new.self in
    subst (λ old. CallsBy c.args.kind c.args.moment c.args.job (Ok c.in-Ok.ticket) old (part.Processor q)) (sym c.in-Processor.is) (q, refl, c.in-Ok.ensures)

pub returns-in-Err : goal.returns-in-Err
returns-in-Err c = let q = c.call.new.self in
    subst (λ old. CallsBy c.args.kind c.args.moment c.args.job (Err c.fault_of_refusal.result) old (part.Processor q)) (sym c.in-Processor.is) (
      q,
      refl,
      record {
        refused = c.in-Err.refused;
        named = c.fault_of_refusal.ensures;
        refuses = c.in-Err.ensures;
      },
    )
