use Rattle.std.proofs.Common.{subst, sym}
use Rattle.rcu_lists.specs.declared.pace.Kind.TheVariants.{Lazy, Plain}
use Rattle.test_parts.specs.Acts.{Acts}
use Rattle.test_parts.specs.declared.phases.phase.Answer.TheVariants.{Reported, Ticked}
use Rattle.test_parts.proofs.Called.{called}
use Rattle.test_parts.proofs.phases.acts.act_one.Goals as goal

pub call_rcu-requires-send-J : goal.call_rcu-requires-send-J
call_rcu-requires-send-J g c κs within = assumption

pub call_rcu-requires-after_bounds : goal.call_rcu-requires-after_bounds
call_rcu-requires-after_bounds g c κs within = assumption

pub call_rcu_lazy-requires-send-J : goal.call_rcu_lazy-requires-send-J
call_rcu_lazy-requires-send-J g c κs within = assumption

pub call_rcu_lazy-requires-after_bounds : goal.call_rcu_lazy-requires-after_bounds
call_rcu_lazy-requires-after_bounds g c κs within = assumption

pub quiescent-requires-send-J : goal.quiescent-requires-send-J
quiescent-requires-send-J g c κs within = assumption

pub quiescent-requires-after_bounds : goal.quiescent-requires-after_bounds
quiescent-requires-after_bounds g c κs within = assumption

pub tick-requires-send-J : goal.tick-requires-send-J
tick-requires-send-J g c κs within = assumption

pub tick-requires-after_bounds : goal.tick-requires-after_bounds
tick-requires-after_bounds g c κs within = assumption

pub returns-in-Call-clause-acts : goal.returns-in-Call-clause-acts
returns-in-Call-clause-acts g c = let e = c.call_rcu.ensures.calls in let key_of = g.J.Job.key_of in
    subst (λ s. Acts key_of s c.accepted.result c.args.processor.now.state c.call_rcu.new.self.state) (sym c.in-Call.is) (called key_of c.in-Call.moment Plain c.in-Call.job c.args.processor.now.state c.call_rcu.new.self.state c.call_rcu.result c.accepted.result c.accepted.ensures.ok c.accepted.ensures.err e.ok e.err e.refused)

pub returns-in-Lazy-clause-acts : goal.returns-in-Lazy-clause-acts
returns-in-Lazy-clause-acts g c = let e = c.call_rcu_lazy.ensures.calls in let key_of = g.J.Job.key_of in
    subst (λ s. Acts key_of s c.accepted-in-Lazy.result c.args.processor.now.state c.call_rcu_lazy.new.self.state) (sym c.in-Lazy.is) (called key_of c.in-Lazy.moment Lazy c.in-Lazy.job c.args.processor.now.state c.call_rcu_lazy.new.self.state c.call_rcu_lazy.result c.accepted-in-Lazy.result c.accepted-in-Lazy.ensures.ok c.accepted-in-Lazy.ensures.err e.ok e.err e.refused)

pub returns-in-Report-clause-acts : goal.returns-in-Report-clause-acts
returns-in-Report-clause-acts g c = subst (λ s. Acts g.J.Job.key_of s (Reported c.quiescent.result) c.args.processor.now.state c.quiescent.new.self.state) (sym c.in-Report.is) (c.quiescent.ensures.reports, c.quiescent.ensures.keeps)

pub returns-in-Tick-clause-acts : goal.returns-in-Tick-clause-acts
returns-in-Tick-clause-acts g c = subst (λ s. Acts g.J.Job.key_of s (Ticked c.tick.result) c.args.processor.now.state c.tick.new.self.state) (sym c.in-Tick.is) c.tick.ensures.ticks
