use Rattle.rcu_world_law.specs.declared.who.Side.TheVariants.{Hand}
use Rattle.rcu_world_law.specs.Events.CoreEvent.{LookHand, Fetch}
use Rattle.rcu_world.specs.Turns.{where_enabled, run_events, and_then}
use Rattle.rcu_world.proofs.Leading.{leads_then}
use Rattle.std.proofs.Common.{◌<◌, ◌∙◌, subst, sym, refl, length}
use Rattle.std.proofs.lemmas.Bool.{and_parts, ltb-true}
use Rattle.rcu_world_law.specs.States.{has}
use Rattle.rcu_world.specs.Views.{state}
use Rattle.rcu_world.proofs.Staying.{stays_by, stays_then}
use Rattle.rcu_world.proofs.worlds.World.hand_turn.Goals as goal

pub run_some-ran-requires-send-J : goal.run_some-ran-requires-send-J
run_some-ran-requires-send-J g c κs within = c.type_bounds.send-J

pub run_some-ran-requires-send-J-Receipt : goal.run_some-ran-requires-send-J-Receipt
run_some-ran-requires-send-J-Receipt g c κs within = c.type_bounds.send-J-Receipt

pub run_some-ran-requires-after_bounds : goal.run_some-ran-requires-after_bounds
run_some-ran-requires-after_bounds g c κs within =
    let w = state g.J.Job.key_of c.args.self.now.core in
    let l = ltb-true c.args.cpu (length w.cpus) (and_parts (has w c.args.cpu) _ c.requires.there).0 in (
      assumption,
      (
        c.perform-2.ensures.keeps.kept,
        (
          subst (λ n. c.args.cpu < n) (sym (c.perform-2.ensures.keeps.len ∙ c.perform.ensures.keeps.len)) l,
          c.perform-2.ensures.rest refl (c.perform.ensures.rest refl c.requires.rest),
        ),
      ),
    )

pub returns-clause-events : goal.returns-clause-events
returns-clause-events g c = record {
  ok = refl;
  made = leads_then (where_enabled (LookHand c.args.cpu)) (and_then (where_enabled (Fetch c.args.cpu)) (λ w. run_events c.args.cpu Hand c.run_some-ran.result.ran)) _ _ _ c.perform.ensures.leads.1
      (leads_then (where_enabled (Fetch c.args.cpu)) (λ w. run_events c.args.cpu Hand c.run_some-ran.result.ran) _ _ _ c.perform-2.ensures.leads.1 c.run_some-ran.ensures.events.leads);
  stays = stays_then (stays_by c.perform.ensures.keeps (c.perform.ensures.rest refl)) (stays_then (stays_by c.perform-2.ensures.keeps (c.perform-2.ensures.rest refl)) c.run_some-ran.ensures.events.stays);
}
