use Rattle.std.proofs.Common.{ℕ, [], ◌∷◌, ◌++◌, ◌∙◌, ap, refl, arith}
use Rattle.rcu_part_lists.specs.ProcessorLists.{Holding, holding, passed_on}
use Rattle.test_lists.proofs.Rows.{below-pushed, longer}
use Rattle.rcu_jobs.specs.declared.callback.Callback.{Callback}
use Rattle.test_lists.proofs.tests_part_lists.Row.call.Goals as goal

pub invariant_of-self-2 : goal.invariant_of-self-2
invariant_of-self-2 c = let s = c.args.self.now in let n = s.called in
    let x : Callback ℕ = record { cpu = 0; number = n; key = n; stamp = 0; job = n } in
    let all = c.place.ensures.places ∙ ap (λ (h : Holding ℕ). passed_on h ++ x ∷ []) c.reserve.ensures.same in record {
      few = omega (arith, c.if-number-ge-MOST_CALLS.false);
      counted = longer n (passed_on (holding s.processor_lists)) (passed_on (holding c.place.new.self)) x all s.counted;
      below = below-pushed n (passed_on (holding s.processor_lists)) (passed_on (holding c.place.new.self)) x refl all s.below;
    }
