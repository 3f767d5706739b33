use Rattle.std.proofs.Common.{refl, rules}
use Rattle.check_torture.proofs.Keeping.{keeps_count}
use Rattle.check_torture.proofs.acts.Actor.report.Goals as goal

pub returns : goal.returns
returns c = let e = c.quiescent.ensures in record {
  counted = c.quiescent.result;
  reports = e.reports;
  told = search rules;
  beside = record { goes_on = keeps_count _ _ _ e.same e.sound e.keeps.count; keys = refl };
  place = record { cpu = refl; moment = refl; burst = refl };
}
