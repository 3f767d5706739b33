use Rattle.std.proofs.Common.{refl, subst, sym}
use Rattle.std.specs.declared.result.Result.TheVariants.{Ok}
use Rattle.rcu_c_slots.specs.Others.{HaltsBy}
use Rattle.rcu_c_slots.specs.declared.part.Part.TheVariants as part
use Rattle.rcu_c_slots.proofs.part.Part.halt.Goals as goal

pub returns-in-Control : goal.returns-in-Control
returns-in-Control c = let e = c.finish.ensures in subst (λ old. HaltsBy (Ok tt) old (part.Control c.finish.new.self)) (sym c.in-Control.is) (record {
  answer = tt;
  after = c.finish.new.self;
  result_is = refl;
  new_is = refl;
  does = record { same = e.same; halts = e.halts };
})
