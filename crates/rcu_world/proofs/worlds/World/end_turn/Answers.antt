use Rattle.std.proofs.Common.{ℕ, ◌∙◌, ◌%◌, ◌≡◌, refl, sym, subst}
use Rattle.rcu_world.specs.Turns.{Leads, meets, upto}
use Rattle.rcu_world.specs.Views.{state}
use Rattle.rcu_world.proofs.Wholes.{if_ok_never, on_err}
use denote.Param.{param}
use Rattle.rcu_world.proofs.Fitting.{core_fits}
use Rattle.rcu_world.proofs.Driving.{answers_ended, answers_waits, ends_after}
use Rattle.rcu_world.proofs.Staying.{stays_by, stays_then}
use Rattle.rcu_world.proofs.worlds.World.end_turn.Goals as goal

pub returns-then-perform-clause-answer : goal.returns-then-perform-clause-answer
returns-then-perform-clause-answer g c = answers_ended (state g.J.Job.key_of c.args.self.now.core) _ c.number-number.result c.first_waited-first.result
    c.number-number.ensures c.requires.progress c.first_waited-first.ensures c.requires.world.fit.core c.in_ok-meet_first.ensures.events.leads (sym c.perform.ensures.enabled ∙ c.if-perform.true)

pub returns-clause-answer : goal.returns-clause-answer
returns-clause-answer g c = answers_waits (state g.J.Job.key_of c.args.self.now.core) _ c.first_waited-first.result
    c.requires.progress c.first_waited-first.ensures c.requires.world.fit.core c.in_ok-meet_first.ensures.events.leads (sym c.perform.ensures.enabled ∙ c.if-perform.false)

pub meet_first-requires-send-J : goal.meet_first-requires-send-J
meet_first-requires-send-J g c κs within = c.type_bounds.send-J

pub meet_first-requires-send-J-Receipt : goal.meet_first-requires-send-J-Receipt
meet_first-requires-send-J-Receipt g c κs within = c.type_bounds.send-J-Receipt

pub meet_first-requires-after_bounds : goal.meet_first-requires-after_bounds
meet_first-requires-after_bounds g c κs within = (assumption, c.requires.world)

pub perform-requires-send-J : goal.perform-requires-send-J
perform-requires-send-J g c κs within = c.type_bounds.send-J

pub perform-requires-send-J-Receipt : goal.perform-requires-send-J-Receipt
perform-requires-send-J-Receipt g c κs within = c.type_bounds.send-J-Receipt

pub perform-requires-after_bounds : goal.perform-requires-after_bounds
perform-requires-after_bounds g c κs within = (assumption, (c.meet_first.ensures.events.stays.kept, refl))

pub first_waited-first-requires-send-J : goal.first_waited-first-requires-send-J
first_waited-first-requires-send-J g c κs within = c.type_bounds.send-J

pub first_waited-first-requires-send-J-Receipt : goal.first_waited-first-requires-send-J-Receipt
first_waited-first-requires-send-J-Receipt g c κs within = c.type_bounds.send-J-Receipt

pub first_waited-first-requires-after_bounds : goal.first_waited-first-requires-after_bounds
first_waited-first-requires-after_bounds g c κs within = core_fits (param 0 g.row.J) (param 1 g.row.J-Receipt) assumption

pub returns-then-perform-clause-events : goal.returns-then-perform-clause-events
returns-then-perform-clause-events g c = record {
  leads = ends_after (state g.J.Job.key_of c.args.self.now.core) _ _ c.first_waited-first.result c.first_waited-first.ensures c.in_ok-meet_first.ensures.events.leads c.perform.ensures.leads.1;
  before = tt;
  stays = stays_then c.meet_first.ensures.events.stays (stays_by c.perform.ensures.keeps (c.perform.ensures.rest refl));
}

pub returns-clause-events : goal.returns-clause-events
returns-clause-events g c = record {
  leads = ends_after (state g.J.Job.key_of c.args.self.now.core) _ _ c.first_waited-first.result c.first_waited-first.ensures c.in_ok-meet_first.ensures.events.leads c.perform.ensures.leads.1;
  before = tt;
  stays = stays_then c.meet_first.ensures.events.stays (stays_by c.perform.ensures.keeps (c.perform.ensures.rest refl));
}

pub returns-in_err-meet_first-clause-events : goal.returns-in_err-meet_first-clause-events
returns-in_err-meet_first-clause-events g c = record {
  leads = if_ok_never _ _ c.from_residual.ensures;
  before = let w = state g.J.Job.key_of c.args.self.now.core in on_err ((n : ℕ) × Leads w (upto meets n w) (state g.J.Job.key_of c.meet_first.new.self.core)) _ c.in_err-meet_first.ensures.events.before;
  stays = c.meet_first.ensures.events.stays;
}
