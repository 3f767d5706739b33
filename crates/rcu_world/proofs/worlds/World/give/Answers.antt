use Rattle.std.proofs.Common.{refl, ◌∙◌, ◌<◌, ap, arith, sym, subst, length}
use Rattle.std.proofs.lemmas.List.{length-map}
use Rattle.rcu_world_law.specs.Steps.{given}
use Rattle.rcu_world_processor.specs.Views.{seen}
use Rattle.rcu_world.specs.Views.{state}
use Rattle.rcu_world.proofs.Drawing.{gives_made, gives_nothing, gives_none, gives_refused, few_given}
use Rattle.rcu_world.proofs.Leading.{seen_there}
use denote.Param.{param}
use Rattle.rcu_world.proofs.Fitting.{fits_there}
use Rattle.rcu_world.proofs.Staying.{stays_by, stays_same}
use Rattle.rcu_world.proofs.worlds.World.give.Goals as goal

pub given_len-ready-requires-send-J : goal.given_len-ready-requires-send-J
given_len-ready-requires-send-J g c κs within = c.type_bounds.send-J

pub given_len-ready-requires-send-J-Receipt : goal.given_len-ready-requires-send-J-Receipt
given_len-ready-requires-send-J-Receipt g c κs within = c.type_bounds.send-J-Receipt

pub given_len-ready-requires-after_bounds : goal.given_len-ready-requires-after_bounds
given_len-ready-requires-after_bounds g c κs within = fits_there (param 0 g.row.J) (param 1 g.row.J-Receipt) assumption

pub returns-then-not-is_member-clause-events : goal.returns-then-not-is_member-clause-events
returns-then-not-is_member-clause-events g c = record {
  made = gives_none c.args.group c.args.cpu _ (sym c.is_member.ensures ∙ c.if-not-is_member.true);
  stays = stays_same c.requires.world;
}

pub returns-in-Ok-true-clause-events : goal.returns-in-Ok-true-clause-events
returns-in-Ok-true-clause-events g c = record {
  made = gives_made c.args.group c.args.cpu _ _ _ (sym c.is_member.ensures ∙ c.if-not-is_member.false) (sym c.in-Ok-true.ensures.enabled ∙ c.in-Ok-true.field-0-test) c.in-Ok-true.ensures.leads.1
      (c.given_len-ready.ensures ∙ ap (λ x. length (given c.args.self.now.core.blimit x)) (seen_there g.J.Job.key_of c.args.self.now.core c.args.cpu c.index.result.now (subst (λ n. c.args.cpu < n) (length-map c.args.self.now.core.processors.items (seen g.J.Job.key_of)) c.requires.there) c.index.ensures));
  stays = stays_by c.attempt.ensures.keeps (c.attempt.ensures.rest refl);
}

pub returns-in-Ok-true-clause-most : goal.returns-in-Ok-true-clause-most
returns-in-Ok-true-clause-most g c =
    let s = seen_there g.J.Job.key_of c.args.self.now.core c.args.cpu c.index.result.now (subst (λ n. c.args.cpu < n) (length-map c.args.self.now.core.processors.items (seen g.J.Job.key_of)) c.requires.there) c.index.ensures in
    let f = few_given (state g.J.Job.key_of c.args.self.now.core) c.args.cpu c.requires.world.fit c.requires.there in
    omega (arith, f, c.given_len-ready.ensures ∙ ap (λ x. length (given c.args.self.now.core.blimit x)) s)

pub returns-in-Ok-false-clause-events : goal.returns-in-Ok-false-clause-events
returns-in-Ok-false-clause-events g c = record {
  made = gives_nothing c.args.group c.args.cpu _ _ (sym c.is_member.ensures ∙ c.if-not-is_member.false) (sym c.in-Ok-false.ensures.enabled ∙ c.in-Ok-false.field-0-test) c.in-Ok-false.ensures.leads.1;
  stays = stays_by c.attempt.ensures.keeps (c.attempt.ensures.rest refl);
}

pub returns-in-Err-clause-events : goal.returns-in-Err-clause-events
returns-in-Err-clause-events g c = record {
  made = gives_refused c.args.group c.args.cpu _ _ (sym c.is_member.ensures ∙ c.if-not-is_member.false) c.in-Err.ensures.err;
  stays = stays_by c.attempt.ensures.keeps (c.attempt.ensures.rest refl);
}

pub index-requires : goal.index-requires
index-requires g c = omega (arith, subst (λ n. c.args.cpu < n) (length-map c.args.self.now.core.processors.items (seen g.J.Job.key_of)) c.requires.there, c.args.self.now.core.processors.ok.0)

pub is_member-requires-send-J : goal.is_member-requires-send-J
is_member-requires-send-J g c κs within = c.type_bounds.send-J

pub is_member-requires-send-J-Receipt : goal.is_member-requires-send-J-Receipt
is_member-requires-send-J-Receipt g c κs within = c.type_bounds.send-J-Receipt

pub attempt-requires-send-J : goal.attempt-requires-send-J
attempt-requires-send-J g c κs within = c.type_bounds.send-J

pub attempt-requires-send-J-Receipt : goal.attempt-requires-send-J-Receipt
attempt-requires-send-J-Receipt g c κs within = c.type_bounds.send-J-Receipt

pub is_member-requires-after_bounds : goal.is_member-requires-after_bounds
is_member-requires-after_bounds g c κs within = (assumption, (c.requires.world, c.requires.there))

pub attempt-requires-after_bounds : goal.attempt-requires-after_bounds
attempt-requires-after_bounds g c κs within = (assumption, c.requires.world)
