use Rattle.std.proofs.Common.{refl, subst, sym}
use Rattle.std.specs.declared.result.Result.TheVariants.{Ok}
use Rattle.rcu_c_slots.specs.Others.{DriverTurnsBy}
use Rattle.rcu_c_slots.specs.declared.part.Part.TheVariants as part
use Rattle.rcu_c_slots.proofs.part.Part.turn_driver.Goals as goal

pub returns-in-Driver : goal.returns-in-Driver
returns-in-Driver c = let e = c.turn.ensures in subst (λ old. DriverTurnsBy (Ok c.turn.result) old (part.Driver c.turn.new.self)) (sym c.in-Driver.is) (record {
  answer = c.turn.result;
  after = c.turn.new.self;
  result_is = refl;
  new_is = refl;
  does = record { same = e.same; drives = e.turn };
})
