use Rattle.std.proofs.Common.{ap, sym, subst, ◌∙◌}
use Rattle.std.specs.Option.{ok_or}
use Rattle.std.specs.declared.result.Result.TheVariants.{Err, Ok}
use Rattle.rcu_c_slots.specs.Shows.{ShowsBack, in_place}
use Rattle.rcu_c_slots.specs.declared.fault.Fault.TheVariants.{NoneLeft, NoProcessor}
use Rattle.rcu_c_slots.proofs.Lending.{lent_none, lent_some}
use Rattle.rcu_c_slots.proofs.part.Part.back_at.Goals as goal

pub returns-in-Some-get : goal.returns-in-Some-get
returns-in-Some-get c = let p = c.args.processor in let at = c.args.at in let back = c.in-Closed.closed.back.items in let jobs = c.in-Some.jobs.now.items in
    subst (ShowsBack p at (Ok c.in-Some-get.job.now)) (sym c.in-Closed.is) (ap (λ o. ok_or o NoneLeft) (sym (lent_some jobs c.deref-in-Some.result.now at c.deref-in-Some.ensures.value c.in-Some-get.job c.in-Some-get.ensures.lookup))
    ∙ ap (λ o. in_place at o) (sym (lent_some back c.deref.result.now p c.deref.ensures.value c.in-Some.jobs c.in-Some.ensures.lookup)))

pub returns-in-None-get : goal.returns-in-None-get
returns-in-None-get c = let p = c.args.processor in let at = c.args.at in let back = c.in-Closed.closed.back.items in let jobs = c.in-Some.jobs.now.items in
    subst (ShowsBack p at (Err NoneLeft)) (sym c.in-Closed.is) (ap (λ o. ok_or o NoneLeft) (sym (lent_none jobs c.deref-in-Some.result.now at c.deref-in-Some.ensures.value c.in-None-get.ensures.lookup))
    ∙ ap (λ o. in_place at o) (sym (lent_some back c.deref.result.now p c.deref.ensures.value c.in-Some.jobs c.in-Some.ensures.lookup)))

pub returns-in-None : goal.returns-in-None
returns-in-None c = let p = c.args.processor in let at = c.args.at in let back = c.in-Closed.closed.back.items in
    subst (ShowsBack p at (Err NoProcessor)) (sym c.in-Closed.is) (ap (λ o. in_place at o) (sym (lent_none back c.deref.result.now p c.deref.ensures.value c.in-None.ensures.lookup)))
