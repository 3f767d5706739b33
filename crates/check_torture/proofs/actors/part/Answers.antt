use Rattle.std.proofs.Common.{rules, ◌≡◌, [], ◌∷◌, ◌++◌, append_assoc, ap, sym, ◌∙◌, subst, refl}
use Rattle.std.specs.List.{AllZip}
use Rattle.check_torture.proofs.actors.part.Goals as goal
use Rattle.rcu_lemmas.proofs.Zips.{zip_push}

pub loop-driven-preserved : goal.loop-driven-preserved
loop-driven-preserved c =
    let i = c.loop-driven.invariant in
    let done = c.loop-driven.yielded in
    let driven = c.in-Some.driven in
    record {
      order = append_assoc done (driven ∷ []) c.next.new.self.rest.items ∙ (ap (λ l. done ++ l) (sym c.in-Some.ensures.steps.0) ∙ i.order);
      room = search rules;
      room_for_logs = search rules;
      parted = subst (AllZip (λ d p. d.processor ≡ p) (done ++ driven ∷ [])) (sym c.push_reserved.ensures.items)
          (zip_push (λ d p. d.processor ≡ p) done c.loop-driven.processors.items driven driven.processor i.parted refl);
    }
