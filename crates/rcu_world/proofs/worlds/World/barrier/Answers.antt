use Rattle.std.proofs.Common.{length, subst, refl, ◌∙◌, sym, inl, inr}
use Rattle.rcu_world_law.specs.Events.CoreEvent.{Open, Urge}
use Rattle.rcu_world.specs.Turns.{IsAtRest, Leads, where_enabled, and_then, upto, counts_for}
use Rattle.rcu_world.specs.Views.{state}
use Rattle.rcu_world.proofs.Leading.{leads_then}
use Rattle.std.proofs.lemmas.List.{length-map}
use Rattle.rcu_world.specs.Barrings.{barrier}
use Rattle.rcu_world.proofs.Staying.{stays_by, stays_same, stays_still, stays_then}
use Rattle.rcu_world.proofs.worlds.World.barrier.Goals as goal

pub returns-clause-answer : goal.returns-clause-answer
returns-clause-answer g c = (sym c.in_default.ensures, c.len-barrier.ensures ∙ c.args.self.now.core.barriers.ok.0 ∙ sym (length-map c.args.self.now.core.barriers.items barrier))

pub barrier_fault-requires-send-J : goal.barrier_fault-requires-send-J
barrier_fault-requires-send-J g c κs within = c.type_bounds.send-J

pub barrier_fault-requires-send-J-Receipt : goal.barrier_fault-requires-send-J-Receipt
barrier_fault-requires-send-J-Receipt g c κs within = c.type_bounds.send-J-Receipt

pub barrier_fault-requires-after_bounds : goal.barrier_fault-requires-after_bounds
barrier_fault-requires-after_bounds g c κs within = assumption

pub returns-in-Some-clause-answer : goal.returns-in-Some-clause-answer
returns-in-Some-clause-answer g c = inl (sym c.in-Some.ensures)

pub returns-in-Err-clause-answer : goal.returns-in-Err-clause-answer
returns-in-Err-clause-answer g c = inr (sym c.in_default.ensures, refl)

pub attempt-requires-send-J : goal.attempt-requires-send-J
attempt-requires-send-J g c κs within = c.type_bounds.send-J

pub attempt-requires-send-J-Receipt : goal.attempt-requires-send-J-Receipt
attempt-requires-send-J-Receipt g c κs within = c.type_bounds.send-J-Receipt

pub attempt-requires-after_bounds : goal.attempt-requires-after_bounds
attempt-requires-after_bounds g c κs within = (assumption, c.requires.world)

pub count_all-requires-send-J : goal.count_all-requires-send-J
count_all-requires-send-J g c κs within = c.type_bounds.send-J

pub count_all-requires-send-J-Receipt : goal.count_all-requires-send-J-Receipt
count_all-requires-send-J-Receipt g c κs within = c.type_bounds.send-J-Receipt

pub count_all-requires-after_bounds : goal.count_all-requires-after_bounds
count_all-requires-after_bounds g c κs within = (assumption, c.attempt.ensures.keeps.kept)

pub perform-requires-send-J : goal.perform-requires-send-J
perform-requires-send-J g c κs within = c.type_bounds.send-J

pub perform-requires-send-J-Receipt : goal.perform-requires-send-J-Receipt
perform-requires-send-J-Receipt g c κs within = c.type_bounds.send-J-Receipt

pub perform-requires-after_bounds : goal.perform-requires-after_bounds
perform-requires-after_bounds g c κs within = (assumption, (c.count_all.ensures.events.stays.kept, refl))

pub returns-in-Some-clause-events : goal.returns-in-Some-clause-events
returns-in-Some-clause-events g c = record {
  leads = tt;
  same = refl;
  stays = stays_same c.requires.world;
}

pub returns-in-Err-clause-events : goal.returns-in-Err-clause-events
returns-in-Err-clause-events g c = record {
  leads = tt;
  same = c.in-Err.ensures.err;
  stays = stays_still c.attempt.ensures.keeps c.in-Err.ensures.err;
}

pub returns-clause-events : goal.returns-clause-events
returns-clause-events g c = record {
  leads = let k = subst (λ n. Leads (state g.J.Job.key_of c.attempt.new.self.core) (upto (counts_for c.len-barrier.result) n (state g.J.Job.key_of c.attempt.new.self.core)) (state g.J.Job.key_of c.count_all.new.self.core)) c.attempt.ensures.keeps.len c.count_all.ensures.events.leads in
      leads_then (where_enabled (Open c.len-barrier.result)) (and_then (upto (counts_for c.len-barrier.result) (length (state g.J.Job.key_of c.args.self.now.core).cpus)) (where_enabled Urge)) _ _ _ c.in-Ok.ensures.leads.1
      (leads_then (upto (counts_for c.len-barrier.result) (length (state g.J.Job.key_of c.args.self.now.core).cpus)) (where_enabled Urge) _ _ _ k c.perform.ensures.leads.1);
  same = tt;
  stays = stays_then (stays_by c.attempt.ensures.keeps (c.attempt.ensures.rest refl)) (stays_then c.count_all.ensures.events.stays (stays_by c.perform.ensures.keeps (c.perform.ensures.rest refl)));
}
