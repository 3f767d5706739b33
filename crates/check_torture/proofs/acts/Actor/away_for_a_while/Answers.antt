use Rattle.std.proofs.Common.{arith, refl}
use Rattle.check_torture.proofs.Keeping.{keeps_count}
use Rattle.check_torture.proofs.acts.Actor.away_for_a_while.Goals as goal

pub returns : goal.returns
returns c = let e = c.leave_and_return-processor.ensures in record { goes_on = keeps_count _ _ _ e.same e.sound (omega (arith, e.pace)); keys = refl }
