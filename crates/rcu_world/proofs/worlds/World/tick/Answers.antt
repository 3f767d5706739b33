use Rattle.rcu_world_law.specs.declared.who.Side.TheVariants.{Local}
use Rattle.rcu_world.specs.Turns.{look_events, offloadable_events, run_events, and_then}
use Rattle.rcu_world.proofs.Leading.{leads_then}
use Rattle.std.proofs.Common.{◌<◌, ◌∙◌, refl, subst, sym}
use Rattle.rcu_world.proofs.Staying.{stays_then}
use Rattle.rcu_world.proofs.worlds.World.tick.Goals as goal

pub run_some-requires-send-J : goal.run_some-requires-send-J
run_some-requires-send-J g c κs within = c.type_bounds.send-J

pub run_some-requires-send-J-Receipt : goal.run_some-requires-send-J-Receipt
run_some-requires-send-J-Receipt g c κs within = c.type_bounds.send-J-Receipt

pub run_some-requires-after_bounds : goal.run_some-requires-after_bounds
run_some-requires-after_bounds g c κs within = (
  assumption,
  (
    c.tick_offloadable.ensures.events.stays.kept,
    (
      subst (λ n. c.args.cpu < n) (sym (c.tick_offloadable.ensures.events.stays.len ∙ c.look_own.ensures.events.stays.len)) c.requires.there,
      c.tick_offloadable.ensures.events.stays.rest (c.look_own.ensures.events.stays.rest c.requires.rest),
    ),
  ),
)

pub returns-clause-events : goal.returns-clause-events
returns-clause-events g c = record {
  ok = refl;
  made = let o = c.tick_offloadable.ensures.events in (
    o.choice,
    leads_then (look_events c.args.cpu) (and_then (offloadable_events c.args.cpu c.args.moment o.choice) (λ w. run_events c.args.cpu Local c.run_some.result.ran)) _ _ _ c.look_own.ensures.events.leads
        (leads_then (offloadable_events c.args.cpu c.args.moment o.choice) (λ w. run_events c.args.cpu Local c.run_some.result.ran) _ _ _ o.leads c.run_some.ensures.events.leads),
  );
  stays = stays_then c.look_own.ensures.events.stays (stays_then c.tick_offloadable.ensures.events.stays c.run_some.ensures.events.stays);
}
