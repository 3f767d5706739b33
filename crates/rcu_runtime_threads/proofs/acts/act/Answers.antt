use Rattle.rcu_lists.specs.declared.pace.Kind.TheVariants.{Lazy, Plain}
use Rattle.std.proofs.Common.{refl, subst, sym}
use Rattle.rcu_runtime_threads.specs.Steps.{Does}
use Rattle.rcu_runtime_threads.specs.declared.acts.Acted.TheVariants as acted
use Rattle.rcu_runtime_threads.specs.declared.worker.Answer.TheVariants as answer
use Rattle.rcu_runtime_threads.specs.declared.worker.WorkerEnd.TheVariants as end
use Rattle.rcu_runtime_threads.proofs.Acting.{called_works, told_lazy, told_plain}
use Rattle.rcu_runtime_threads.proofs.Sends.{sent_as}
use Rattle.rcu_runtime_threads.proofs.Steps.{works_itself, works_once}
use Rattle.rcu_runtime_threads.proofs.acts.act.Goals as goal

pub returns-in-Call-clause-works : goal.returns-in-Call-clause-works
returns-in-Call-clause-works g c = let e = c.call_rcu.ensures.calls in
    called_works g.J.Job.key_of c.in-Call.moment c.in-Call.job c.args.processor.now c.call_rcu.new.self g.J.Job.gives Plain c.call_rcu.result (record { same = e.same; ok = e.ok; err = e.err; refused = e.refused; full = e.full }) e.sound

pub returns-in-Call-clause-does : goal.returns-in-Call-clause-does
returns-in-Call-clause-does g c = let e = c.call_rcu.ensures.calls in
    subst (λ s. Does g.J.Job.key_of s c.told.result c.args.processor.now c.call_rcu.new.self) (sym c.in-Call.is) (told_plain g.J.Job.key_of c.in-Call.moment c.in-Call.job c.args.processor.now c.call_rcu.new.self c.call_rcu.result c.told.result c.told.ensures (record { same = e.same; ok = e.ok; err = e.err; refused = e.refused; full = e.full }))

pub returns-in-CallLazy-clause-works : goal.returns-in-CallLazy-clause-works
returns-in-CallLazy-clause-works g c = let e = c.call_rcu_lazy.ensures.calls in
    called_works g.J.Job.key_of c.in-CallLazy.moment c.in-CallLazy.job c.args.processor.now c.call_rcu_lazy.new.self g.J.Job.gives Lazy c.call_rcu_lazy.result (record { same = e.same; ok = e.ok; err = e.err; refused = e.refused; full = e.full }) e.sound

pub returns-in-CallLazy-clause-does : goal.returns-in-CallLazy-clause-does
returns-in-CallLazy-clause-does g c = let e = c.call_rcu_lazy.ensures.calls in
    subst (λ s. Does g.J.Job.key_of s c.told-in-CallLazy.result c.args.processor.now c.call_rcu_lazy.new.self) (sym c.in-CallLazy.is) (told_lazy g.J.Job.key_of c.in-CallLazy.moment c.in-CallLazy.job c.args.processor.now c.call_rcu_lazy.new.self c.call_rcu_lazy.result c.told-in-CallLazy.result c.told-in-CallLazy.ensures (record { same = e.same; ok = e.ok; err = e.err; refused = e.refused; full = e.full }))

pub returns-in-Tick-clause-does : goal.returns-in-Tick-clause-does
returns-in-Tick-clause-does g c = let e = c.tick.ensures in
    subst (λ s. Does g.J.Job.key_of s (acted.Answers (answer.Ticked c.tick.result)) c.args.processor.now c.tick.new.self) (sym c.in-Tick.is) (record { ticks = e.ticks; few = e.few; first = e.first; fresh = e.fresh; local = e.local; none = e.none })

pub call_rcu-requires-send-J : goal.call_rcu-requires-send-J
call_rcu-requires-send-J g c κs within = c.type_bounds.send-J

pub call_rcu-requires-send-J-Receipt : goal.call_rcu-requires-send-J-Receipt
call_rcu-requires-send-J-Receipt g c κs within = sent_as 2 1 g.row.J-Receipt c.type_bounds.send-J-Receipt

pub call_rcu-requires-after_bounds : goal.call_rcu-requires-after_bounds
call_rcu-requires-after_bounds g c κs within = assumption

pub call_rcu_lazy-requires-send-J : goal.call_rcu_lazy-requires-send-J
call_rcu_lazy-requires-send-J g c κs within = c.type_bounds.send-J

pub call_rcu_lazy-requires-send-J-Receipt : goal.call_rcu_lazy-requires-send-J-Receipt
call_rcu_lazy-requires-send-J-Receipt g c κs within = sent_as 2 1 g.row.J-Receipt c.type_bounds.send-J-Receipt

pub call_rcu_lazy-requires-after_bounds : goal.call_rcu_lazy-requires-after_bounds
call_rcu_lazy-requires-after_bounds g c κs within = assumption

pub reading-requires-send-J : goal.reading-requires-send-J
reading-requires-send-J g c κs within = c.type_bounds.send-J

pub reading-requires-send-J-Receipt : goal.reading-requires-send-J-Receipt
reading-requires-send-J-Receipt g c κs within = sent_as 2 1 g.row.J-Receipt c.type_bounds.send-J-Receipt

pub reading-requires-after_bounds : goal.reading-requires-after_bounds
reading-requires-after_bounds g c κs within = assumption

pub quiescent-requires-send-J : goal.quiescent-requires-send-J
quiescent-requires-send-J g c κs within = c.type_bounds.send-J

pub quiescent-requires-send-J-Receipt : goal.quiescent-requires-send-J-Receipt
quiescent-requires-send-J-Receipt g c κs within = sent_as 2 1 g.row.J-Receipt c.type_bounds.send-J-Receipt

pub quiescent-requires-after_bounds : goal.quiescent-requires-after_bounds
quiescent-requires-after_bounds g c κs within = assumption

pub tick-requires-send-J : goal.tick-requires-send-J
tick-requires-send-J g c κs within = c.type_bounds.send-J

pub tick-requires-send-J-Receipt : goal.tick-requires-send-J-Receipt
tick-requires-send-J-Receipt g c κs within = sent_as 2 1 g.row.J-Receipt c.type_bounds.send-J-Receipt

pub tick-requires-after_bounds : goal.tick-requires-after_bounds
tick-requires-after_bounds g c κs within = assumption

pub barrier-requires-send-J : goal.barrier-requires-send-J
barrier-requires-send-J g c κs within = c.type_bounds.send-J

pub barrier-requires-send-J-Receipt : goal.barrier-requires-send-J-Receipt
barrier-requires-send-J-Receipt g c κs within = sent_as 2 1 g.row.J-Receipt c.type_bounds.send-J-Receipt

pub barrier-requires-after_bounds : goal.barrier-requires-after_bounds
barrier-requires-after_bounds g c κs within = assumption

pub poll-requires-send-J : goal.poll-requires-send-J
poll-requires-send-J g c κs within = c.type_bounds.send-J

pub poll-requires-send-J-Receipt : goal.poll-requires-send-J-Receipt
poll-requires-send-J-Receipt g c κs within = sent_as 2 1 g.row.J-Receipt c.type_bounds.send-J-Receipt

pub poll-requires-after_bounds : goal.poll-requires-after_bounds
poll-requires-after_bounds g c κs within = assumption

pub returns-in-Read-clause-works : goal.returns-in-Read-clause-works
returns-in-Read-clause-works g c = works_itself g.J.Job.key_of g.J.Job.gives c.args.processor.now

pub returns-in-Read-clause-does : goal.returns-in-Read-clause-does
returns-in-Read-clause-does g c = subst (λ s. Does g.J.Job.key_of s (acted.Answers answer.WasRead) c.args.processor.now c.args.processor.now) (sym c.in-Read.is) refl

pub returns-in-Pause-clause-works : goal.returns-in-Pause-clause-works
returns-in-Pause-clause-works g c = works_itself g.J.Job.key_of g.J.Job.gives c.args.processor.now

pub returns-in-Pause-clause-does : goal.returns-in-Pause-clause-does
returns-in-Pause-clause-does g c = subst (λ s. Does g.J.Job.key_of s (acted.Answers answer.Paused) c.args.processor.now c.args.processor.now) (sym c.in-Pause.is) refl

pub returns-in-Done-clause-works : goal.returns-in-Done-clause-works
returns-in-Done-clause-works g c = works_itself g.J.Job.key_of g.J.Job.gives c.args.processor.now

pub returns-in-Done-clause-does : goal.returns-in-Done-clause-does
returns-in-Done-clause-does g c = subst (λ s. Does g.J.Job.key_of s (acted.Ends end.Done) c.args.processor.now c.args.processor.now) (sym c.in-Done.is) refl

pub returns-in-Fail-clause-works : goal.returns-in-Fail-clause-works
returns-in-Fail-clause-works g c = works_itself g.J.Job.key_of g.J.Job.gives c.args.processor.now

pub returns-in-Fail-clause-does : goal.returns-in-Fail-clause-does
returns-in-Fail-clause-does g c = subst (λ s. Does g.J.Job.key_of s (acted.Ends end.Failed) c.args.processor.now c.args.processor.now) (sym c.in-Fail.is) refl

pub returns-in-Report-clause-works : goal.returns-in-Report-clause-works
returns-in-Report-clause-works g c = let e = c.quiescent.ensures in works_once g.J.Job.key_of g.J.Job.gives c.args.processor.now c.quiescent.new.self e.same e.sound e.keeps.count

pub returns-in-Report-clause-does : goal.returns-in-Report-clause-does
returns-in-Report-clause-does g c = let e = c.quiescent.ensures in
    subst (λ s. Does g.J.Job.key_of s (acted.Answers (answer.Reported c.quiescent.result)) c.args.processor.now c.quiescent.new.self) (sym c.in-Report.is) (record { reports = e.reports; keeps = e.keeps })

pub returns-in-Tick-clause-works : goal.returns-in-Tick-clause-works
returns-in-Tick-clause-works g c = let e = c.tick.ensures in works_once g.J.Job.key_of g.J.Job.gives c.args.processor.now c.tick.new.self e.same e.sound e.count

pub returns-in-OpenBarrier-clause-works : goal.returns-in-OpenBarrier-clause-works
returns-in-OpenBarrier-clause-works g c = let e = c.barrier.ensures.opens in works_once g.J.Job.key_of g.J.Job.gives c.args.processor.now c.barrier.new.self e.same e.sound e.keeps.count

pub returns-in-OpenBarrier-clause-does : goal.returns-in-OpenBarrier-clause-does
returns-in-OpenBarrier-clause-does g c = let e = c.barrier.ensures.opens in
    subst (λ s. Does g.J.Job.key_of s (acted.Answers (answer.Opened c.barrier.result)) c.args.processor.now c.barrier.new.self) (sym c.in-OpenBarrier.is) ((e.does, e.keeps))

pub returns-in-PollBarrier-clause-works : goal.returns-in-PollBarrier-clause-works
returns-in-PollBarrier-clause-works g c = c.poll.ensures.works

pub returns-in-PollBarrier-clause-does : goal.returns-in-PollBarrier-clause-does
returns-in-PollBarrier-clause-does g c = subst (λ s. Does g.J.Job.key_of s c.poll.result c.args.processor.now c.poll.new.processor) (sym c.in-PollBarrier.is) c.poll.ensures.does
