use Rattle.std.proofs.Common.{◌≡◌, List, ◌∷◌, ◌++◌, [], length, append_assoc, ap, sym, ◌∙◌, subst}
use Rattle.std.specs.List.{AllZip}
use Rattle.std.proofs.lemmas.List.{nil_from_length}
use Rattle.rcu_part_threads.specs.Calls.{HasAnswered, HasCalled}
use Rattle.rcu_part_threads.specs.Dealing.{tickets_in}
use Rattle.rcu_part_threads.proofs.callers.join_callers.Given.{Over}
use Rattle.rcu_part_threads.proofs.Tickets.{joined_more}
use Rattle.rcu_part_threads.proofs.Zips.{some_never}
use Rattle.rcu_part_threads.proofs.callers.join_callers.Goals as goal
use Rattle.rcu_lemmas.proofs.Zips.{all_of, zip_pushed}

pub loop-thread-preserved : goal.loop-thread-preserved
loop-thread-preserved g c = let key_of = g.J.Job.key_of in let gives = g.J.Job.gives in let i = c.loop-thread.invariant in let kept = c.in-Ok.ensures in let done = c.loop-thread.yielded in let thread = c.in-Some.thread in let more = c.next.new.self.rest.items in
    let one = c.join.result in let all = c.loop-thread.called.items in record {
      order = append_assoc done (thread ∷ []) more ∙ (ap (λ l. done ++ l) (sym c.in-Some.ensures.steps.0) ∙ i.order);
      whole = i.whole;
      called = λ none. joined_more key_of gives (λ t. t.promise.0.value.processor) (λ x. x.processor) done thread all c.keep.new.called.items one c.loop-thread.tickets.items (tickets_in one.answers.items) c.keep.new.tickets.items kept.tickets kept.called c.join.ensures.called (i.called none);
      answered = λ none. zip_pushed (λ t x. HasAnswered key_of gives t.promise.0.value.jobs.items x.answers.items t.promise.0.value.processor x.processor) done all c.keep.new.called.items thread one kept.called (i.answered none) c.join.ensures;
    }

over : (g : Over) (c : goal.In-None-fault g) → length c.loop-thread.thread-iterator.rest.items ≡ 0
over g c = sym c.loop-thread.thread-iterator.rest.ok.0 ∙ c.in-None.ensures.steps.0

pub returns-in-None-fault-clause-called : goal.returns-in-None-fault-clause-called
returns-in-None-fault-clause-called g c = let i = c.loop-thread.invariant in let rest = c.loop-thread.thread-iterator.rest.items in
    subst (λ (l : List _). AllZip (λ thread x. HasCalled g.J.Job.key_of g.J.Job.gives c.loop-thread.tickets.items thread.promise.0.value.processor x.processor) l c.loop-thread.called.items)
    (all_of c.loop-thread.yielded rest c.args.crew.threads.items i.order (nil_from_length rest (over g c))) (i.called c.in-None-fault.is)

pub returns-in-None-fault-clause-answered : goal.returns-in-None-fault-clause-answered
returns-in-None-fault-clause-answered g c = let i = c.loop-thread.invariant in let rest = c.loop-thread.thread-iterator.rest.items in
    subst (λ (l : List _). AllZip (λ thread x. HasAnswered g.J.Job.key_of g.J.Job.gives thread.promise.0.value.jobs.items x.answers.items thread.promise.0.value.processor x.processor) l c.loop-thread.called.items)
    (all_of c.loop-thread.yielded rest c.args.crew.threads.items i.order (nil_from_length rest (over g c))) (i.answered c.in-None-fault.is)

pub into_iter-thread-iterator-requires-room-T-Destruct : goal.into_iter-thread-iterator-requires-room-T-Destruct
into_iter-thread-iterator-requires-room-T-Destruct g c κs within = assumption

pub into_iter-thread-iterator-requires-room-T-Destruct-2 : goal.into_iter-thread-iterator-requires-room-T-Destruct-2
into_iter-thread-iterator-requires-room-T-Destruct-2 g c κs within = assumption

pub into_iter-thread-iterator-requires-room-T-Destruct-3 : goal.into_iter-thread-iterator-requires-room-T-Destruct-3
into_iter-thread-iterator-requires-room-T-Destruct-3 g c κs within = assumption

pub next-requires-room-T-Destruct : goal.next-requires-room-T-Destruct
next-requires-room-T-Destruct g c κs within = assumption

pub next-requires-room-T-Destruct-2 : goal.next-requires-room-T-Destruct-2
next-requires-room-T-Destruct-2 g c κs within = assumption

pub next-requires-room-T-Destruct-3 : goal.next-requires-room-T-Destruct-3
next-requires-room-T-Destruct-3 g c κs within = assumption

pub join-requires-room-P-Promise : goal.join-requires-room-P-Promise
join-requires-room-P-Promise g c κs within = assumption

pub keep-requires-room-P-Destruct : goal.keep-requires-room-P-Destruct
keep-requires-room-P-Destruct g c κs within = assumption

pub drop-thread-iterator-requires-room-T-Destruct : goal.drop-thread-iterator-requires-room-T-Destruct
drop-thread-iterator-requires-room-T-Destruct g c κs within = assumption

pub drop-thread-iterator-requires-room-T-Destruct-2 : goal.drop-thread-iterator-requires-room-T-Destruct-2
drop-thread-iterator-requires-room-T-Destruct-2 g c κs within = assumption

pub drop-thread-iterator-requires-room-T-Destruct-3 : goal.drop-thread-iterator-requires-room-T-Destruct-3
drop-thread-iterator-requires-room-T-Destruct-3 g c κs within = assumption

pub drop-called-requires-room-T-Destruct : goal.drop-called-requires-room-T-Destruct
drop-called-requires-room-T-Destruct g c κs within = assumption

pub loop-thread-init : goal.loop-thread-init
loop-thread-init g c = record {
  order = c.into_iter-thread-iterator.ensures.into_iter_gives.0;
  whole = λ none. none;
  called = λ none. rw c.new-called.ensures.items tt;
  answered = λ none. rw c.new-called.ensures.items tt;
}

pub loop-thread-preserved-in_default : goal.loop-thread-preserved-in_default
loop-thread-preserved-in_default g c = let done = c.loop-thread.yielded in let thread = c.in-Some.thread in record {
  order = append_assoc done (thread ∷ []) c.next.new.self.rest.items ∙ (ap (λ l. done ++ l) (sym c.in-Some.ensures.steps.0) ∙ c.loop-thread.invariant.order);
  whole = λ none. some_never none;
  called = λ none. some_never none;
  answered = λ none. some_never none;
}

pub returns-in-None-fault-clause-whole : goal.returns-in-None-fault-clause-whole
returns-in-None-fault-clause-whole g c = c.loop-thread.invariant.whole c.in-None-fault.is
