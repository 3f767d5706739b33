use Rattle.std.proofs.Common.{refl, subst, sym}
use Rattle.std.specs.declared.result.Result.TheVariants.{Ok}
use Rattle.rcu_c_slots.specs.Others.{ShutsBy}
use Rattle.rcu_c_slots.specs.declared.part.Part.TheVariants as part
use Rattle.rcu_c_slots.proofs.part.Part.shut.Goals as goal

pub returns-in-Control : goal.returns-in-Control
returns-in-Control c = let e = c.shut.ensures in subst (λ old. ShutsBy (Ok c.shut.result) old (part.Control c.shut.new.self)) (sym c.in-Control.is) (record {
  answer = c.shut.result;
  after = c.shut.new.self;
  result_is = refl;
  new_is = refl;
  does = record { same = e.same; many = e.many; shuts = e.shuts };
})
