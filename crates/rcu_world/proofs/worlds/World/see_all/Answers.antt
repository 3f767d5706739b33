use Rattle.std.proofs.Common.{◌∙◌, sym, refl, arith}
use Rattle.rcu_world.specs.Polls.{turns_for}
use Rattle.rcu_world.proofs.Leading.{leads_none, leads_upto}
use Rattle.rcu_world.proofs.Passing.{history_turned, seen_skipped, seen_turned}
use Rattle.std.proofs.lemmas.List.{length-map}
use Rattle.rcu_world_processor.specs.Views.{seen}
use Rattle.rcu_world.proofs.Wholes.{leads_all}
use Rattle.rcu_world.proofs.Staying.{stays_by, stays_same, stays_then}
use Rattle.rcu_world.proofs.worlds.World.see_all.Goals as goal

pub loop-place-preserved-then-has_seen : goal.loop-place-preserved-then-has_seen
loop-place-preserved-then-has_seen g c =
    let i = c.loop-place.invariant in
    record {
      leads = leads_upto (turns_for c.args.barrier) c.loop-place.place _ _ _ i.leads (seen_skipped _ c.args.barrier c.loop-place.place (sym c.has_seen.ensures ∙ c.if-has_seen.true));
      history = i.history;
      stays = i.stays;
    }

pub loop-place-preserved : goal.loop-place-preserved
loop-place-preserved g c =
    let i = c.loop-place.invariant in
    record {
      leads = leads_upto (turns_for c.args.barrier) c.loop-place.place _ _ _ i.leads (seen_turned _ _ c.args.barrier c.loop-place.place (sym c.has_seen.ensures ∙ c.if-has_seen.false) c.perform.ensures.leads.1);
      history = history_turned _ _ c.args.barrier c.loop-place.place c.perform.ensures.leads.1 ∙ i.history;
      stays = stays_then i.stays (stays_by c.perform.ensures.keeps (c.perform.ensures.rest refl));
    }

pub returns-clause-events : goal.returns-clause-events
returns-clause-events g c = record {
  leads = leads_all (turns_for c.args.barrier) c.loop-place.place _ _ _ (omega (arith, length-map c.args.self.now.core.processors.items (seen g.J.Job.key_of), c.args.self.now.core.processors.ok.0)) c.loop-place.invariant.leads;
  stays = c.loop-place.invariant.stays;
}

pub has_seen-requires-send-J : goal.has_seen-requires-send-J
has_seen-requires-send-J g c κs within = c.type_bounds.send-J

pub has_seen-requires-send-J-Receipt : goal.has_seen-requires-send-J-Receipt
has_seen-requires-send-J-Receipt g c κs within = c.type_bounds.send-J-Receipt

pub perform-requires-send-J : goal.perform-requires-send-J
perform-requires-send-J g c κs within = c.type_bounds.send-J

pub perform-requires-send-J-Receipt : goal.perform-requires-send-J-Receipt
perform-requires-send-J-Receipt g c κs within = c.type_bounds.send-J-Receipt

pub has_seen-requires-after_bounds : goal.has_seen-requires-after_bounds
has_seen-requires-after_bounds g c κs within = assumption

pub perform-requires-after_bounds : goal.perform-requires-after_bounds
perform-requires-after_bounds g c κs within = (assumption, (c.loop-place.invariant.stays.kept, refl))

pub loop-place-init : goal.loop-place-init
loop-place-init g c = record { leads = leads_none (turns_for c.args.barrier) _; history = refl; stays = stays_same c.requires }

pub returns-clause-history : goal.returns-clause-history
returns-clause-history g c = c.loop-place.invariant.history
