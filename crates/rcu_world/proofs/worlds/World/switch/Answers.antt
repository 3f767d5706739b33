use Rattle.std.proofs.Common.{arith, refl, true, ◌∙◌, ◌<◌, ap, sym, subst}
use Rattle.std.proofs.lemmas.List.{length-map}
use Rattle.rcu_jobs.specs.Modes.{is_offloaded}
use Rattle.rcu_world_processor.specs.Turns.{is_switching}
use Rattle.rcu_world_processor.specs.Views.{seen}
use Rattle.rcu_world.proofs.Leading.{seen_there, where_false}
use Rattle.rcu_world.proofs.Ticking.{switch_heeded, switch_put}
use denote.Param.{param}
use Rattle.rcu_world.proofs.Fitting.{fits_there}
use Rattle.rcu_world.proofs.Staying.{stays_by, stays_same, stays_then}
use Rattle.rcu_world.proofs.worlds.World.switch.Goals as goal

pub is_switching-requires-send-J : goal.is_switching-requires-send-J
is_switching-requires-send-J g c κs within = c.type_bounds.send-J

pub is_switching-requires-send-J-Receipt : goal.is_switching-requires-send-J-Receipt
is_switching-requires-send-J-Receipt g c κs within = c.type_bounds.send-J-Receipt

pub is_switching-requires-after_bounds : goal.is_switching-requires-after_bounds
is_switching-requires-after_bounds g c κs within = fits_there (param 0 g.row.J) (param 1 g.row.J-Receipt) assumption

pub is_offloaded-requires-send-J : goal.is_offloaded-requires-send-J
is_offloaded-requires-send-J g c κs within = c.type_bounds.send-J

pub is_offloaded-requires-send-J-Receipt : goal.is_offloaded-requires-send-J-Receipt
is_offloaded-requires-send-J-Receipt g c κs within = c.type_bounds.send-J-Receipt

pub is_offloaded-requires-after_bounds : goal.is_offloaded-requires-after_bounds
is_offloaded-requires-after_bounds g c κs within = fits_there (param 0 g.row.J) (param 1 g.row.J-Receipt) assumption

pub index-requires : goal.index-requires
index-requires g c = omega (arith, subst (λ n. c.args.cpu < n) (length-map c.args.self.now.core.processors.items (seen g.J.Job.key_of)) c.requires.there, c.args.self.now.core.processors.ok.0)

pub index-requires-2 : goal.index-requires-2
index-requires-2 g c = omega (arith, subst (λ n. c.args.cpu < n) (sym c.perform.ensures.keeps.len ∙ length-map c.perform.new.self.core.processors.items (seen g.J.Job.key_of)) c.requires.there, c.perform.new.self.core.processors.ok.0)

pub perform-requires-send-J : goal.perform-requires-send-J
perform-requires-send-J g c κs within = c.type_bounds.send-J

pub perform-requires-send-J-Receipt : goal.perform-requires-send-J-Receipt
perform-requires-send-J-Receipt g c κs within = c.type_bounds.send-J-Receipt

pub put-requires-send-J : goal.put-requires-send-J
put-requires-send-J g c κs within = c.type_bounds.send-J

pub put-requires-send-J-Receipt : goal.put-requires-send-J-Receipt
put-requires-send-J-Receipt g c κs within = c.type_bounds.send-J-Receipt

pub returns-then-not-is_offloaded : goal.returns-then-not-is_offloaded
returns-then-not-is_offloaded g c =
    let l = switch_heeded c.args.cpu c.perform.ensures.leads.0 _ _
    (ap is_switching (sym (seen_there g.J.Job.key_of c.args.self.now.core c.args.cpu c.index.result.now (subst (λ n. c.args.cpu < n) (length-map c.args.self.now.core.processors.items (seen g.J.Job.key_of)) c.requires.there) c.index.ensures)) ∙ sym c.is_switching.ensures ∙ c.if-not-is_switching.false)
    c.perform.ensures.leads.1
    (ap (λ x. is_offloaded x.mode) (sym (seen_there g.J.Job.key_of c.perform.new.self.core c.args.cpu c.index-2.result.now (subst (λ n. c.args.cpu < n) (sym c.perform.ensures.keeps.len ∙ length-map c.perform.new.self.core.processors.items (seen g.J.Job.key_of)) c.requires.there) c.index-2.ensures)) ∙ sym c.is_offloaded.ensures ∙ c.if-not-is_offloaded.true) in
    record { events = record { choice = record { put = true; pour = l.0; put_again = l.1 }; leads = l.2; stays = stays_by c.perform.ensures.keeps (c.perform.ensures.rest refl) } }

pub returns : goal.returns
returns g c =
    let l = switch_put c.args.cpu c.perform.ensures.leads.0 c.put.result _ _ _
    (ap is_switching (sym (seen_there g.J.Job.key_of c.args.self.now.core c.args.cpu c.index.result.now (subst (λ n. c.args.cpu < n) (length-map c.args.self.now.core.processors.items (seen g.J.Job.key_of)) c.requires.there) c.index.ensures)) ∙ sym c.is_switching.ensures ∙ c.if-not-is_switching.false)
    c.perform.ensures.leads.1
    (ap (λ x. is_offloaded x.mode) (sym (seen_there g.J.Job.key_of c.perform.new.self.core c.args.cpu c.index-2.result.now (subst (λ n. c.args.cpu < n) (sym c.perform.ensures.keeps.len ∙ length-map c.perform.new.self.core.processors.items (seen g.J.Job.key_of)) c.requires.there) c.index-2.ensures)) ∙ sym c.is_offloaded.ensures ∙ c.if-not-is_offloaded.false)
    c.put.ensures.events.leads in
    record { events = record { choice = record { put = true; pour = l.0; put_again = l.1 }; leads = l.2; stays = stays_then (stays_by c.perform.ensures.keeps (c.perform.ensures.rest refl)) c.put.ensures.events.stays } }

pub returns-then-not-is_switching : goal.returns-then-not-is_switching
returns-then-not-is_switching g c =
    let s = seen_there g.J.Job.key_of c.args.self.now.core c.args.cpu c.index.result.now (subst (λ n. c.args.cpu < n) (length-map c.args.self.now.core.processors.items (seen g.J.Job.key_of)) c.requires.there) c.index.ensures in
    record {
      events = record {
        choice = record { put = true; pour = true; put_again = true };
        leads = where_false _ _ _ _ (ap is_switching (sym s) ∙ sym c.is_switching.ensures ∙ c.if-not-is_switching.true) refl;
        stays = stays_same c.requires.world;
      };
    }
