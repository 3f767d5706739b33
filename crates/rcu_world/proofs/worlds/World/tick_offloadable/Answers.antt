use Rattle.rcu_world.proofs.Ticking.{not_offloadable, offloadable_stages}
use Rattle.std.proofs.Common.{refl}
use Rattle.rcu_world.proofs.Staying.{stays_by, stays_same, stays_then}
use Rattle.rcu_world.proofs.worlds.World.tick_offloadable.Goals as goal

pub release-requires-send-J : goal.release-requires-send-J
release-requires-send-J g c κs within = c.type_bounds.send-J

pub release-requires-send-J-Receipt : goal.release-requires-send-J-Receipt
release-requires-send-J-Receipt g c κs within = c.type_bounds.send-J-Receipt

pub switch-requires-send-J : goal.switch-requires-send-J
switch-requires-send-J g c κs within = c.type_bounds.send-J

pub switch-requires-send-J-Receipt : goal.switch-requires-send-J-Receipt
switch-requires-send-J-Receipt g c κs within = c.type_bounds.send-J-Receipt

pub perform-requires-send-J : goal.perform-requires-send-J
perform-requires-send-J g c κs within = c.type_bounds.send-J

pub perform-requires-send-J-Receipt : goal.perform-requires-send-J-Receipt
perform-requires-send-J-Receipt g c κs within = c.type_bounds.send-J-Receipt

pub returns-then-not-is_set : goal.returns-then-not-is_set
returns-then-not-is_set g c =
    let l = not_offloadable c.args.cpu c.args.moment c.is_set.result _ c.is_set.ensures c.if-not-is_set.true in
    record { events = record { choice = l.0; leads = l.1; stays = stays_same c.requires.world } }

pub returns : goal.returns
returns g c =
    let r = c.release.ensures.events in
    let s = c.switch.ensures.events in
    let l = offloadable_stages c.args.cpu c.args.moment c.is_set.result _ _ _ _ c.is_set.ensures c.if-not-is_set.false c.requires.there
    (r.choice, r.leads) (s.choice.pour, s.choice.put_again, s.leads) c.perform.ensures.leads.1 in
    record { events = record { choice = l.0; leads = l.1; stays = stays_then r.stays (stays_then s.stays (stays_by c.perform.ensures.keeps (c.perform.ensures.rest refl))) } }
