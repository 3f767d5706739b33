use Rattle.std.proofs.Common.{◌≡◌, ℕ, ◌+◌, ◌<◌, List, min, rules, ap, length, length-append, [], ◌∷◌, ◌++◌, append_assoc, sym, ◌∙◌, subst, refl, arith}
use Rattle.std.specs.declared.alloc.Global.{Global}
use Rattle.std.specs.declared.vec.Vec.{Vec}
use Rattle.std.proofs.lemmas.List.{nil_from_length}
use Rattle.std.specs.Vec.{vec_capacity, vec_len}
use Rattle.rcu_part_threads.specs.Calls.{CallsInTurn, HasAnswered}
use Rattle.rcu_part_threads.proofs.Answering.{answered_more, answered_none, calls_more}
use Rattle.rcu_part_threads.proofs.callers.call_all.Goals as goal
use Rattle.rcu_lemmas.proofs.Zips.{all_of, room_for_more, room_for_one}

-- the next call's moment is its place
next_place : {X : Type 0} (moment next top : ℕ) (done rest all : List X) (x : X) → done ++ rest ≡ all → moment ≡ length done → length all < top → next ≡ min (moment + 1) top → next ≡ length (done ++ x ∷ [])
next_place moment next top done rest all x order at few is =
    let long = ap length order in let before = length-append done rest in let after = length-append done (x ∷ []) in omega (arith, long, before, after, at, few, is)

-- a vector has fewer items than there are moments
fewer : {X : Type 0} (v : Vec X Global) → length v.items < 18446744073709551615
fewer v = let many = v.ok in let small = v.small in omega (arith, many, small)

pub loop-job-init : goal.loop-job-init
loop-job-init g c = let caller = c.args.caller in record {
  order = c.into_iter-job-iterator.ensures.into_iter_gives.0;
  moment = refl;
  turns = subst (λ l. CallsInTurn g.J.Job.key_of 0 [] l caller.processor.state caller.processor.state) (sym caller.empty) refl;
  answered = subst (λ l. HasAnswered g.J.Job.key_of g.J.Job.gives [] l caller.processor caller.processor) (sym caller.empty) (answered_none g.J.Job.key_of g.J.Job.gives caller.processor);
  room = let none = caller.empty in let room = caller.room in search rules;
}

pub loop-job-preserved : goal.loop-job-preserved
loop-job-preserved g c = let key_of = g.J.Job.key_of in let gives = g.J.Job.gives in let i = c.loop-job.invariant in let l = c.loop-job in
    let job = c.in-Some.job in let done = l.yielded in let more = c.next.new.self.rest.items in record {
      order = append_assoc done (job ∷ []) more ∙ (ap (λ x. done ++ x) (sym c.in-Some.ensures.steps.0) ∙ i.order);
      moment = next_place l.moment c.saturating_add-moment.result 18446744073709551615 done l.job-iterator.rest.items c.args.caller.jobs.items job i.order i.moment (fewer c.args.caller.jobs) c.saturating_add-moment.ensures;
      turns = subst (λ x. CallsInTurn key_of 0 (done ++ job ∷ []) x c.args.caller.processor.state c.call_one-answer.new.processor.state) (sym c.push_reserved.ensures.items)
          (calls_more key_of 0 l.moment done l.answers.items job c.call_one-answer.result c.args.caller.processor.state l.processor.state c.call_one-answer.new.processor.state (omega (arith, i.moment)) i.turns c.call_one-answer.ensures.turns);
      answered = subst (λ x. HasAnswered key_of gives (done ++ job ∷ []) x c.args.caller.processor c.call_one-answer.new.processor) (sym c.push_reserved.ensures.items)
          (answered_more key_of gives done l.answers.items job c.call_one-answer.result c.args.caller.processor l.processor c.call_one-answer.new.processor i.answered c.call_one-answer.ensures.answered);
      room = room_for_more (vec_len l.answers) (vec_len c.push_reserved.new.self) (vec_capacity l.answers) (vec_capacity c.push_reserved.new.self) l.job-iterator.rest.items more job i.room c.in-Some.ensures.steps.0 c.push_reserved.ensures.len c.push_reserved.ensures.capacity;
    }

pub push_reserved-requires : goal.push_reserved-requires
push_reserved-requires g c = let l = c.loop-job in room_for_one (vec_len l.answers) (vec_capacity l.answers) l.job-iterator.rest.items c.next.new.self.rest.items c.in-Some.job l.invariant.room c.in-Some.ensures.steps.0

pub call_one-answer-requires-send-J : goal.call_one-answer-requires-send-J
call_one-answer-requires-send-J g c κs within = assumption

pub returns-clause-turns : goal.returns-clause-turns
returns-clause-turns g c = let l = c.loop-job in let rest = l.job-iterator.rest.items in let none = sym l.job-iterator.rest.ok.0 ∙ c.in-None.ensures.steps.0 in
    subst (λ x. CallsInTurn g.J.Job.key_of 0 x l.answers.items c.args.caller.processor.state l.processor.state) (all_of l.yielded rest c.args.caller.jobs.items l.invariant.order (nil_from_length rest none)) l.invariant.turns

pub returns-clause-answered : goal.returns-clause-answered
returns-clause-answered g c = let l = c.loop-job in let rest = l.job-iterator.rest.items in let none = sym l.job-iterator.rest.ok.0 ∙ c.in-None.ensures.steps.0 in
    subst (λ x. HasAnswered g.J.Job.key_of g.J.Job.gives x l.answers.items c.args.caller.processor l.processor) (all_of l.yielded rest c.args.caller.jobs.items l.invariant.order (nil_from_length rest none)) l.invariant.answered

pub call_one-answer-requires-after_bounds : goal.call_one-answer-requires-after_bounds
call_one-answer-requires-after_bounds g c κs within = assumption
