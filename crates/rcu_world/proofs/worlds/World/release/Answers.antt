use Rattle.std.proofs.Common.{arith, refl, ◌∙◌, ◌<◌, ap, sym, subst}
use Rattle.std.proofs.lemmas.List.{length-map}
use Rattle.rcu_world_law.specs.Releases.{releases_in_tick, moment_of_tick}
use Rattle.rcu_world_processor.specs.Views.{seen}
use Rattle.rcu_world.proofs.Leading.{seen_there}
use Rattle.rcu_world.proofs.Ticking.{release_skipped, release_put}
use denote.Param.{param}
use Rattle.rcu_world.proofs.Fitting.{fits_there}
use Rattle.rcu_world.proofs.Staying.{stays_by, stays_then}
use Rattle.rcu_world.proofs.worlds.World.release.Goals as goal

pub is_urged-urged-requires-send-J : goal.is_urged-urged-requires-send-J
is_urged-urged-requires-send-J g c κs within = c.type_bounds.send-J

pub is_urged-urged-requires-send-J-Receipt : goal.is_urged-urged-requires-send-J-Receipt
is_urged-urged-requires-send-J-Receipt g c κs within = c.type_bounds.send-J-Receipt

pub is_urged-urged-requires-after_bounds : goal.is_urged-urged-requires-after_bounds
is_urged-urged-requires-after_bounds g c κs within = fits_there (param 0 g.row.J) (param 1 g.row.J-Receipt) assumption

pub is_released_in_tick-requires-send-J : goal.is_released_in_tick-requires-send-J
is_released_in_tick-requires-send-J g c κs within = c.type_bounds.send-J

pub is_released_in_tick-requires-send-J-Receipt : goal.is_released_in_tick-requires-send-J-Receipt
is_released_in_tick-requires-send-J-Receipt g c κs within = c.type_bounds.send-J-Receipt

pub is_released_in_tick-requires-after_bounds : goal.is_released_in_tick-requires-after_bounds
is_released_in_tick-requires-after_bounds g c κs within = fits_there (param 0 g.row.J) (param 1 g.row.J-Receipt) assumption

pub moment_of_tick-late-requires-send-J : goal.moment_of_tick-late-requires-send-J
moment_of_tick-late-requires-send-J g c κs within = c.type_bounds.send-J

pub moment_of_tick-late-requires-send-J-Receipt : goal.moment_of_tick-late-requires-send-J-Receipt
moment_of_tick-late-requires-send-J-Receipt g c κs within = c.type_bounds.send-J-Receipt

pub moment_of_tick-late-requires-after_bounds : goal.moment_of_tick-late-requires-after_bounds
moment_of_tick-late-requires-after_bounds g c κs within = fits_there (param 0 g.row.J) (param 1 g.row.J-Receipt) assumption

pub index-requires : goal.index-requires
index-requires g c = omega (arith, subst (λ n. c.args.cpu < n) (length-map c.args.self.now.core.processors.items (seen g.J.Job.key_of)) c.requires.there, c.args.self.now.core.processors.ok.0)

pub index-requires-2 : goal.index-requires-2
index-requires-2 g c = omega (arith, subst (λ n. c.args.cpu < n) (sym c.perform.ensures.keeps.len ∙ length-map c.perform.new.self.core.processors.items (seen g.J.Job.key_of)) c.requires.there, c.perform.new.self.core.processors.ok.0)

pub index-requires-3 : goal.index-requires-3
index-requires-3 g c = subst (λ n. c.args.cpu < n) (sym c.perform.ensures.keeps.len ∙ length-map c.perform.new.self.core.processors.items (seen g.J.Job.key_of) ∙ sym c.perform.new.self.core.processors.ok.0) c.requires.there

pub perform-requires-send-J : goal.perform-requires-send-J
perform-requires-send-J g c κs within = c.type_bounds.send-J

pub perform-requires-send-J-Receipt : goal.perform-requires-send-J-Receipt
perform-requires-send-J-Receipt g c κs within = c.type_bounds.send-J-Receipt

pub perform-requires-after_bounds : goal.perform-requires-after_bounds
perform-requires-after_bounds g c κs within = (assumption, (c.requires.world, refl))

pub put-requires-send-J : goal.put-requires-send-J
put-requires-send-J g c κs within = c.type_bounds.send-J

pub put-requires-send-J-Receipt : goal.put-requires-send-J-Receipt
put-requires-send-J-Receipt g c κs within = c.type_bounds.send-J-Receipt

pub put-requires-after_bounds : goal.put-requires-after_bounds
put-requires-after_bounds g c κs within = (assumption, c.perform.ensures.keeps.kept)

pub returns-then-not-is_released_in_tick : goal.returns-then-not-is_released_in_tick
returns-then-not-is_released_in_tick g c =
    let l = release_skipped c.args.cpu c.args.moment c.is_urged-urged.result _ _
    (c.is_urged-urged.ensures ∙ ap (λ x. x.urged) (seen_there g.J.Job.key_of c.args.self.now.core c.args.cpu c.index.result.now (subst (λ n. c.args.cpu < n) (length-map c.args.self.now.core.processors.items (seen g.J.Job.key_of)) c.requires.there) c.index.ensures))
    c.perform.ensures.leads.1
    (ap (releases_in_tick c.is_urged-urged.result c.args.moment) (sym (seen_there g.J.Job.key_of c.perform.new.self.core c.args.cpu c.index-2.result.now (subst (λ n. c.args.cpu < n) (sym c.perform.ensures.keeps.len ∙ length-map c.perform.new.self.core.processors.items (seen g.J.Job.key_of)) c.requires.there) c.index-2.ensures)) ∙ sym c.is_released_in_tick.ensures ∙ c.if-not-is_released_in_tick.true) in
    record { events = record { choice = l.0; leads = l.1; stays = stays_by c.perform.ensures.keeps (c.perform.ensures.rest refl) } }

pub returns : goal.returns
returns g c =
    let l = release_put c.args.cpu c.args.moment c.is_urged-urged.result c.moment_of_tick-late.result c.put.result _ _ _
    (c.is_urged-urged.ensures ∙ ap (λ x. x.urged) (seen_there g.J.Job.key_of c.args.self.now.core c.args.cpu c.index.result.now (subst (λ n. c.args.cpu < n) (length-map c.args.self.now.core.processors.items (seen g.J.Job.key_of)) c.requires.there) c.index.ensures))
    c.perform.ensures.leads.1
    (ap (releases_in_tick c.is_urged-urged.result c.args.moment) (sym (seen_there g.J.Job.key_of c.perform.new.self.core c.args.cpu c.index-2.result.now (subst (λ n. c.args.cpu < n) (sym c.perform.ensures.keeps.len ∙ length-map c.perform.new.self.core.processors.items (seen g.J.Job.key_of)) c.requires.there) c.index-2.ensures)) ∙ sym c.is_released_in_tick.ensures ∙ c.if-not-is_released_in_tick.false)
    (c.moment_of_tick-late.ensures ∙ ap (moment_of_tick c.args.moment) (seen_there g.J.Job.key_of c.perform.new.self.core c.args.cpu c.index-3.result.now (subst (λ n. c.args.cpu < n) (sym c.perform.ensures.keeps.len ∙ length-map c.perform.new.self.core.processors.items (seen g.J.Job.key_of)) c.requires.there) c.index-3.ensures))
    c.put.ensures.events.leads in
    record { events = record { choice = l.0; leads = l.1; stays = stays_then (stays_by c.perform.ensures.keeps (c.perform.ensures.rest refl)) c.put.ensures.events.stays } }
