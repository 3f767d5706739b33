use Rattle.std.proofs.Common.{arith, length-append, ◌∷◌, [], ◌∙◌, refl, subst, sym}
use Rattle.rcu_world.proofs.Keeping.{runs_step}
use Rattle.std.proofs.lemmas.Iterator.Adapters.{YieldsList-from_vec}
use Rattle.std.proofs.lemmas.Iterator.Consumers.{YieldsList-end, YieldsList-turn}
use Rattle.std.proofs.lemmas.List.{map-id}
use Rattle.rcu_world.specs.Events.{Runs}
use Rattle.rcu_world.specs.Views.{state}
use Rattle.rcu_world.proofs.Places.{room_for_yielded}
use Rattle.rcu_world.proofs.worlds.World.run.Goals as goal

pub loop-event-preserved : goal.loop-event-preserved
loop-event-preserved g c = record {
  runs = rw c.push_reserved.ensures.items (runs_step g.J.Job.key_of _ _ c.loop-event.yielded c.loop-event.answers.items c.in-Some.event c.step-answer.result _ c.loop-event.invariant.runs c.step-answer.ensures.step);
  kept = c.step-answer.ensures.kept;
  len = omega (arith, length-append c.loop-event.yielded (c.in-Some.event ∷ []));
  room = omega arith;
}

pub loop-event-init : goal.loop-event-init
loop-event-init g c =
    let w = state g.J.Job.key_of c.args.self.now.core in
    record {
      runs = subst (λ xs. Runs g.J.Job.key_of w [] xs w) (sym (c.reserve.ensures.items ∙ c.new-answers.ensures.items)) refl;
      kept = c.requires;
      len = c.reserve.ensures.len ∙ c.new-answers.ensures.len;
      room = omega (arith, c.in-Ok.ensures.ok, c.len.ensures, c.args.events.ok.0, c.new-answers.ensures.len, c.reserve.ensures.len);
    }

pub returns-clause-ok : goal.returns-clause-ok
returns-clause-ok g c =
    let b = c.into_iter-event-iterator.ensures.into_iter_gives in
    let t = YieldsList-end (YieldsList-from_vec {s = c.into_iter-event-iterator.result} c.args.events.items b.0 (b.1 ∙ c.args.events.ok.0)) c.loop-event.yielded c.loop-event.event-iterator c.loop-event.yielded_by c.next.result c.next.new.self c.in-None.is c.next.ensures.steps in
    subst (λ xs. Runs g.J.Job.key_of (state g.J.Job.key_of c.args.self.now.core) xs c.loop-event.answers.items (state g.J.Job.key_of c.loop-event.self.core)) (sym (map-id c.loop-event.yielded) ∙ t.0) c.loop-event.invariant.runs

pub returns-in-Err-clause-err : goal.returns-in-Err-clause-err
returns-in-Err-clause-err g c = (refl, refl)

pub push_reserved-requires : goal.push_reserved-requires
push_reserved-requires g c =
    let b = c.into_iter-event-iterator.ensures.into_iter_gives in
    let t = YieldsList-turn (YieldsList-from_vec {s = c.into_iter-event-iterator.result} c.args.events.items b.0 (b.1 ∙ c.args.events.ok.0)) c.loop-event.yielded c.loop-event.event-iterator c.loop-event.yielded_by c.next.result c.next.new.self c.in-Some.event c.in-Some.is c.next.ensures.steps in
    room_for_yielded _ _ _ _ c.loop-event.invariant.len t.0 c.loop-event.invariant.room

pub returns-clause-kept : goal.returns-clause-kept
returns-clause-kept g c = c.loop-event.invariant.kept
