use Rattle.std.proofs.Common.{ap, sym, subst, ◌∙◌}
use Rattle.std.specs.List.{slice_get}
use Rattle.std.specs.Option.{ok_or}
use Rattle.std.specs.declared.result.Result.TheVariants.{Err}
use Rattle.rcu_c_slots.specs.Shows.{ShowsRan, in_place}
use Rattle.rcu_c_slots.specs.declared.fault.Fault.TheVariants.{NoneLeft, NoProcessor}
use Rattle.rcu_c_slots.proofs.Lending.{lent_none, lent_some}
use Rattle.rcu_c_slots.proofs.part.Part.ran_at.Goals as goal

pub returns-in-Some : goal.returns-in-Some
returns-in-Some c = let p = c.args.processor in let at = c.args.at in let ran = c.in-Closed.closed.ran.items in
    subst (ShowsRan p at c.record_at.result) (sym c.in-Closed.is) (c.record_at.ensures ∙ (ap (λ l. ok_or (slice_get l at) NoneLeft) c.as_slice.ensures.value
    ∙ ap (λ o. in_place at o) (sym (lent_some ran c.deref.result.now p c.deref.ensures.value c.in-Some.records c.in-Some.ensures.lookup))))

pub returns-in-None : goal.returns-in-None
returns-in-None c = let p = c.args.processor in let at = c.args.at in let ran = c.in-Closed.closed.ran.items in
    subst (ShowsRan p at (Err NoProcessor)) (sym c.in-Closed.is) (ap (λ o. in_place at o) (sym (lent_none ran c.deref.result.now p c.deref.ensures.value c.in-None.ensures.lookup)))
