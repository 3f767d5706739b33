use Rattle.std.proofs.Common.{◌∙◌, arith, refl, sym}
use Rattle.std.proofs.lemmas.List.{length-map}
use Rattle.rcu_world_processor.specs.Views.{seen}
use Rattle.rcu_world.specs.Views.{state}
use Rattle.rcu_world.proofs.Asking.{none_asked, local_asked, switch_asked}
use Rattle.rcu_world.proofs.Staying.{stays_by}
use Rattle.rcu_world.proofs.worlds.World.ask.Goals as goal

pub returns-then-cpu-len-clause-answer : goal.returns-then-cpu-len-clause-answer
returns-then-cpu-len-clause-answer g c = none_asked (state g.J.Job.key_of c.args.self.now.core) c.args.cpu
    (omega (arith, c.perform-done.ensures.keeps.len, length-map c.perform-done.new.self.core.processors.items (seen g.J.Job.key_of), c.perform-done.new.self.core.processors.ok.0))

pub returns-then-not-done-clause-answer : goal.returns-then-not-done-clause-answer
returns-then-not-done-clause-answer g c = local_asked (state g.J.Job.key_of c.args.self.now.core) c.args.cpu
    (omega (arith, c.perform-done.ensures.keeps.len, length-map c.perform-done.new.self.core.processors.items (seen g.J.Job.key_of), c.perform-done.new.self.core.processors.ok.0))
    (sym c.perform-done.ensures.enabled ∙ c.if-not-done.true)

pub returns-clause-answer : goal.returns-clause-answer
returns-clause-answer g c = switch_asked (state g.J.Job.key_of c.args.self.now.core) c.args.cpu
    (omega (arith, c.perform-done.ensures.keeps.len, length-map c.perform-done.new.self.core.processors.items (seen g.J.Job.key_of), c.perform-done.new.self.core.processors.ok.0))
    (sym c.perform-done.ensures.enabled ∙ c.if-not-done.false)

pub perform-done-requires-send-J : goal.perform-done-requires-send-J
perform-done-requires-send-J g c κs within = c.type_bounds.send-J

pub perform-done-requires-send-J-Receipt : goal.perform-done-requires-send-J-Receipt
perform-done-requires-send-J-Receipt g c κs within = c.type_bounds.send-J-Receipt

pub returns-then-cpu-len-clause-events : goal.returns-then-cpu-len-clause-events
returns-then-cpu-len-clause-events g c = record {
  leads = c.perform-done.ensures.leads.1;
  stays = stays_by c.perform-done.ensures.keeps (c.perform-done.ensures.rest refl);
}

pub returns-then-not-done-clause-events : goal.returns-then-not-done-clause-events
returns-then-not-done-clause-events g c = record {
  leads = c.perform-done.ensures.leads.1;
  stays = stays_by c.perform-done.ensures.keeps (c.perform-done.ensures.rest refl);
}

pub returns-clause-events : goal.returns-clause-events
returns-clause-events g c = record {
  leads = c.perform-done.ensures.leads.1;
  stays = stays_by c.perform-done.ensures.keeps (c.perform-done.ensures.rest refl);
}
