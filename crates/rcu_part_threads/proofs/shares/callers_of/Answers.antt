use Rattle.std.proofs.Common.{◌≡◌, [], ◌∷◌, ◌++◌, append_assoc, ap, sym, ◌∙◌}
use Rattle.std.proofs.lemmas.List.{nil_from_length}
use Rattle.rcu_part_threads.proofs.Dealt.{mapped_more, none_pushed}
use Rattle.rcu_part_threads.proofs.shares.callers_of.Goals as goal
use Rattle.rcu_lemmas.proofs.Zips.{all_of}

pub loop-processor-preserved : goal.loop-processor-preserved
loop-processor-preserved g c = let i = c.loop-processor.invariant in let done = c.loop-processor.yielded in let p = c.in-Some.processor in
    let before = c.loop-processor.callers.items in let after = c.push.new.self.items in let one = c.new.result in
    let pushed : after ≡ before ++ one ∷ [] = c.in_ok-push.ensures.items in record {
      order = append_assoc done (p ∷ []) c.next.new.self.rest.items ∙ (ap (λ l. done ++ l) (sym c.in-Some.ensures.steps.0) ∙ i.order);
      processors = mapped_more (λ x. x.processor) before after one done p pushed i.processors c.new.ensures.processor;
      none = none_pushed (λ x. x.jobs.items) before after one pushed c.new.ensures.jobs i.none;
    }

pub returns : goal.returns
returns g c = let l = c.loop-processor in let i = l.invariant in let rest = l.processor-iterator.rest.items in let none = sym l.processor-iterator.rest.ok.0 ∙ c.in-None.ensures.steps.0 in record {
  processors = i.processors ∙ all_of l.yielded rest c.args.processors.items i.order (nil_from_length rest none);
  dealt = λ p below. i.none p;
}
