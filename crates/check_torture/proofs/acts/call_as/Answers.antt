use Rattle.check_torture.proofs.Keeping.{keeps_if_err, keeps_if_ok}
use Rattle.check_torture.proofs.acts.call_as.Goals as goal

pub returns-in-Lazy-clause-accepted : goal.returns-in-Lazy-clause-accepted
returns-in-Lazy-clause-accepted c = let e = c.call_rcu_lazy.ensures.calls in keeps_if_ok c.call_rcu_lazy.result _ c.args.processor.now c.call_rcu_lazy.new.self e.same e.sound (λ x h. h.count) e.ok

pub returns-in-Lazy-clause-refused : goal.returns-in-Lazy-clause-refused
returns-in-Lazy-clause-refused c = let e = c.call_rcu_lazy.ensures.calls in keeps_if_err c.call_rcu_lazy.result _ c.args.processor.now c.call_rcu_lazy.new.self e.same e.sound (λ x h. h.count) e.err

pub returns-in-Plain-clause-accepted : goal.returns-in-Plain-clause-accepted
returns-in-Plain-clause-accepted c = let e = c.call_rcu.ensures.calls in keeps_if_ok c.call_rcu.result _ c.args.processor.now c.call_rcu.new.self e.same e.sound (λ x h. h.count) e.ok

pub returns-in-Plain-clause-refused : goal.returns-in-Plain-clause-refused
returns-in-Plain-clause-refused c = let e = c.call_rcu.ensures.calls in keeps_if_err c.call_rcu.result _ c.args.processor.now c.call_rcu.new.self e.same e.sound (λ x h. h.count) e.err
