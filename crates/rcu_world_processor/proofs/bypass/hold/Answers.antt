use Rattle.std.proofs.Common.{rules, ◌∙◌, ◌+◌, length, ap, sym, refl, ◌∷◌, []}
use Rattle.std.proofs.lemmas.List.{length-map, map-append}
use Rattle.rcu_world_law.specs.Releases.{pace_after_stamp}
use Rattle.rcu_lists.specs.Bypasses.{bypass_items, bypass_pace, bypass_qhimark}
use Rattle.rcu_world_processor.specs.Batches.{law_pace, with_bypass}
use Rattle.rcu_world_processor.specs.Waits.{call, calls}
use Rattle.rcu_world_processor.proofs.Paces.{due_lazy, due_plain, held_lazy, held_plain}
use Rattle.rcu_world_processor.proofs.bypass.hold.Goals as goal

pub returns-then-lazy-clause-pace : goal.returns-then-lazy-clause-pace
returns-then-lazy-clause-pace g c = record {
  after = λ x. ap law_pace c.hold.ensures.pace ∙ held_lazy g.J.Job.key_of c.args.moment (bypass_pace c.args.bypass.now) (bypass_items c.args.bypass.now) x
      ∙ ap (λ l. pace_after_stamp l c.args.moment (with_bypass g.J.Job.key_of c.args.bypass.now x)) (sym c.if-lazy.true);
  qhimark = search rules;
}

pub returns-then-lazy-clause-due : goal.returns-then-lazy-clause-due
returns-then-lazy-clause-due g c = let b = c.args.bypass.now in c.hold.ensures.due ∙ due_lazy c.args.moment (bypass_pace b) (length (bypass_items b) + 1) (bypass_qhimark b)
    ∙ rw (c.if-lazy.true, length-map (bypass_items b) (call g.J.Job.key_of)) refl

pub returns-clause-pace : goal.returns-clause-pace
returns-clause-pace g c = record {
  after = λ x. ap law_pace c.hold-2.ensures.pace ∙ held_plain g.J.Job.key_of c.args.moment (bypass_pace c.args.bypass.now) (bypass_items c.args.bypass.now) x
      ∙ ap (λ l. pace_after_stamp l c.args.moment (with_bypass g.J.Job.key_of c.args.bypass.now x)) (sym c.if-lazy.false);
  qhimark = search rules;
}

pub returns-clause-due : goal.returns-clause-due
returns-clause-due g c = let b = c.args.bypass.now in c.hold-2.ensures.due ∙ due_plain c.args.moment (bypass_pace b) (length (bypass_items b) + 1) (bypass_qhimark b)
    ∙ rw (c.if-lazy.false, length-map (bypass_items b) (call g.J.Job.key_of)) refl

pub returns-then-lazy-clause-items : goal.returns-then-lazy-clause-items
returns-then-lazy-clause-items g c = let k = g.J.Job.key_of in ap (calls k) c.hold.ensures.items ∙ map-append (call k) (bypass_items c.args.bypass.now) (c.args.callback ∷ [])

pub returns-clause-items : goal.returns-clause-items
returns-clause-items g c = let k = g.J.Job.key_of in ap (calls k) c.hold-2.ensures.items ∙ map-append (call k) (bypass_items c.args.bypass.now) (c.args.callback ∷ [])

pub hold-requires : goal.hold-requires
hold-requires g c = (assumption, c.requires)

pub hold-requires-2 : goal.hold-requires-2
hold-requires-2 g c = (assumption, c.requires)
