use Rattle.std.proofs.Common.{◌≡◌, [], ◌∷◌, ◌++◌, map, append_assoc, ap, refl, sym, ◌∙◌}
use Rattle.std.proofs.lemmas.List.{map-append, nil_from_length}
use Rattle.rcu_part_threads.proofs.Dealt.{mapped_more}
use Rattle.rcu_part_threads.proofs.callers.split.Goals as goal
use Rattle.rcu_lemmas.proofs.Zips.{all_of}

pub loop-one-preserved : goal.loop-one-preserved
loop-one-preserved g c = let l = c.loop-one in let i = l.invariant in let done = l.yielded in let x = c.in-Some.one in record {
  order = append_assoc done (x ∷ []) c.next.new.self.rest.items ∙ (ap (λ r. done ++ r) (sym c.in-Some.ensures.steps.0) ∙ i.order);
  processors = c.in_ok-push.ensures.items ∙ (ap (λ r. r ++ x.processor ∷ []) i.processors ∙ sym (map-append (λ o. o.processor) done (x ∷ [])));
  answers = mapped_more (λ own. own.items) l.answers.items c.push-in-loop-one.new.self.items x.answers (map (λ o. o.answers.items) done) x.answers.items c.in_ok-push-2.ensures.items i.answers refl ∙ sym (map-append (λ o. o.answers.items) done (x ∷ []));
}

pub returns : goal.returns
returns g c = let l = c.loop-one in let i = l.invariant in let rest = l.one-iterator.rest.items in let none = sym l.one-iterator.rest.ok.0 ∙ c.in-None.ensures.steps.0 in
    let all : l.yielded ≡ c.args.called.items = all_of l.yielded rest c.args.called.items i.order (nil_from_length rest none) in record {
      processors = i.processors ∙ ap (map (λ o. o.processor)) all;
      answers = i.answers ∙ ap (map (λ o. o.answers.items)) all;
    }
