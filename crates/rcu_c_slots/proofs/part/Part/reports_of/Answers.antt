use Rattle.std.proofs.Common.{ap, sym, subst}
use Rattle.std.specs.Option.{ok_or}
use Rattle.std.specs.declared.result.Result.TheVariants.{Err, Ok}
use Rattle.rcu_c_slots.specs.Shows.{ShowsReports}
use Rattle.rcu_c_slots.specs.declared.fault.Fault.TheVariants.{NoProcessor}
use Rattle.rcu_c_slots.proofs.Lending.{lent_none, lent_some}
use Rattle.rcu_c_slots.proofs.part.Part.reports_of.Goals as goal

pub returns-in-Some : goal.returns-in-Some
returns-in-Some c = let p = c.args.processor in let reports = c.in-Closed.closed.reports.items in
    subst (ShowsReports p (Ok c.in-Some.reports.now)) (sym c.in-Closed.is) (ap (λ o. ok_or o NoProcessor) (sym (lent_some reports c.deref.result.now p c.deref.ensures.value c.in-Some.reports c.in-Some.ensures.lookup)))

pub returns-in-None : goal.returns-in-None
returns-in-None c = let p = c.args.processor in let reports = c.in-Closed.closed.reports.items in
    subst (ShowsReports p (Err NoProcessor)) (sym c.in-Closed.is) (ap (λ o. ok_or o NoProcessor) (sym (lent_none reports c.deref.result.now p c.deref.ensures.value c.in-None.ensures.lookup)))
