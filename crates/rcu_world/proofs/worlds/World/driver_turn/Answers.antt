use Rattle.std.proofs.Common.{◌∙◌, ◌<◌, ◌≤◌, ap, refl, sym, subst}
use Rattle.rcu_world_law.specs.Events.CoreEvent.{Start}
use Rattle.rcu_world.specs.Views.{state}
use Rattle.rcu_world.proofs.Driving.{driver_ends, driver_starts, in_progress, answers_started, answers_spent, answers_idle}
use Rattle.rcu_world.proofs.Passing.{leads_same}
use Rattle.rcu_world.proofs.Staying.{stays_by}
use Rattle.rcu_world.proofs.Wholes.{on_ok_by}
use Rattle.rcu_world.proofs.worlds.World.driver_turn.Goals as goal

pub returns-then-number-ne0-clause-answer : goal.returns-then-number-ne0-clause-answer
returns-then-number-ne0-clause-answer g c = c.end_turn.ensures.answer

pub returns-then-number-ne0-clause-err_enabled : goal.returns-then-number-ne0-clause-err_enabled
returns-then-number-ne0-clause-err_enabled g c = c.end_turn.ensures.err_enabled

pub returns-then-perform-clause-answer : goal.returns-then-perform-clause-answer
returns-then-perform-clause-answer g c = answers_started (state g.J.Job.key_of c.args.self.now.core) c.number-number.result c.number-number.ensures c.if-number-ne0.false (sym c.perform.ensures.enabled ∙ c.if-perform.true)

pub returns-then-number-self-clause-answer : goal.returns-then-number-self-clause-answer
returns-then-number-self-clause-answer g c =
    let w = state g.J.Job.key_of c.args.self.now.core in
    let e = sym c.perform.ensures.enabled ∙ c.if-perform.false in
    answers_spent w c.number-number.result c.number-number.ensures c.if-number-ne0.false e (subst (λ n. c.number-number.result < n) (ap (λ s. s.needed) (leads_same w _ Start e c.perform.ensures.leads.1)) c.if-number-self.true)

pub returns-clause-answer : goal.returns-clause-answer
returns-clause-answer g c =
    let w = state g.J.Job.key_of c.args.self.now.core in
    let e = sym c.perform.ensures.enabled ∙ c.if-perform.false in
    answers_idle w c.number-number.result c.number-number.ensures c.if-number-ne0.false (subst (λ n. n ≤ c.number-number.result) (ap (λ s. s.needed) (leads_same w _ Start e c.perform.ensures.leads.1)) c.if-number-self.false)

pub end_turn-requires-send-J : goal.end_turn-requires-send-J
end_turn-requires-send-J g c κs within = c.type_bounds.send-J

pub end_turn-requires-send-J-Receipt : goal.end_turn-requires-send-J-Receipt
end_turn-requires-send-J-Receipt g c κs within = c.type_bounds.send-J-Receipt

pub end_turn-requires-after_bounds : goal.end_turn-requires-after_bounds
end_turn-requires-after_bounds g c κs within = let w = state g.J.Job.key_of c.args.self.now.core in
    (assumption, (c.requires.world, in_progress w c.number-number.result c.number-number.ensures c.if-number-ne0.true c.requires.world.fit.core.board.phase))

pub perform-requires-send-J : goal.perform-requires-send-J
perform-requires-send-J g c κs within = c.type_bounds.send-J

pub perform-requires-send-J-Receipt : goal.perform-requires-send-J-Receipt
perform-requires-send-J-Receipt g c κs within = c.type_bounds.send-J-Receipt

pub perform-requires-after_bounds : goal.perform-requires-after_bounds
perform-requires-after_bounds g c κs within = (assumption, (c.requires.world, refl))

pub returns-then-number-ne0-clause-events : goal.returns-then-number-ne0-clause-events
returns-then-number-ne0-clause-events g c = record {
  leads = let w = state g.J.Job.key_of c.args.self.now.core in
      on_ok_by _ _ c.end_turn.result (driver_ends w _ (in_progress w c.number-number.result c.number-number.ensures c.if-number-ne0.true c.requires.world.fit.core.board.phase)) c.end_turn.ensures.events.leads;
  before = c.end_turn.ensures.events.before;
  stays = c.end_turn.ensures.events.stays;
}

pub returns-then-perform-clause-events : goal.returns-then-perform-clause-events
returns-then-perform-clause-events g c = record {
  leads = driver_starts (state g.J.Job.key_of c.args.self.now.core) _ c.number-number.result c.number-number.ensures c.if-number-ne0.false c.perform.ensures.leads.1;
  before = tt;
  stays = stays_by c.perform.ensures.keeps (c.perform.ensures.rest refl);
}

pub returns-then-number-self-clause-events : goal.returns-then-number-self-clause-events
returns-then-number-self-clause-events g c = record {
  leads = driver_starts (state g.J.Job.key_of c.args.self.now.core) _ c.number-number.result c.number-number.ensures c.if-number-ne0.false c.perform.ensures.leads.1;
  before = tt;
  stays = stays_by c.perform.ensures.keeps (c.perform.ensures.rest refl);
}

pub returns-clause-events : goal.returns-clause-events
returns-clause-events g c = record {
  leads = driver_starts (state g.J.Job.key_of c.args.self.now.core) _ c.number-number.result c.number-number.ensures c.if-number-ne0.false c.perform.ensures.leads.1;
  before = tt;
  stays = stays_by c.perform.ensures.keeps (c.perform.ensures.rest refl);
}
