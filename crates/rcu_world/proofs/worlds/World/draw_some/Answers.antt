use Rattle.std.proofs.Common.{◌∙◌, ◌<◌, ap, arith, refl, sym, subst, length}
use Rattle.std.proofs.lemmas.List.{length-map}
use Rattle.rcu_world_law.specs.States.{Cpu}
use Rattle.rcu_world_processor.specs.Views.{seen}
use Rattle.rcu_world.specs.Views.{state}
use Rattle.rcu_world.proofs.Drawing.{drawn_all, drawn_empty, drawn_none, drawn_one, drawn_waits, few_drawn, joins_where, waits_where}
use Rattle.rcu_world.proofs.Leading.{seen_there}
use denote.Param.{param}
use Rattle.rcu_world.proofs.Fitting.{fits_there}
use Rattle.rcu_world.proofs.Staying.{stays_by, stays_same, stays_then}
use Rattle.rcu_world.proofs.worlds.World.draw_some.Goals as goal

pub drawn_len-drawn-requires-send-J : goal.drawn_len-drawn-requires-send-J
drawn_len-drawn-requires-send-J g c κs within = c.type_bounds.send-J

pub drawn_len-drawn-requires-send-J-Receipt : goal.drawn_len-drawn-requires-send-J-Receipt
drawn_len-drawn-requires-send-J-Receipt g c κs within = c.type_bounds.send-J-Receipt

pub drawn_len-drawn-requires-after_bounds : goal.drawn_len-drawn-requires-after_bounds
drawn_len-drawn-requires-after_bounds g c κs within = fits_there (param 0 g.row.J) (param 1 g.row.J-Receipt) assumption

pub loop-batch-init : goal.loop-batch-init
loop-batch-init g c = record {
  drawn = drawn_none c.args.cpu (state g.J.Job.key_of c.args.self.now.core);
  most = omega arith;
  there = c.requires.there;
  stays = stays_same c.requires.world;
}

pub returns-then-not-perform-clause-events : goal.returns-then-not-perform-clause-events
returns-then-not-perform-clause-events g c = record {
  made = drawn_empty c.args.cpu c.loop-batch.batch _ _ _ _ c.loop-batch.invariant.drawn (sym c.perform.ensures.enabled ∙ c.if-not-perform.true) c.perform.ensures.leads.1;
  stays = stays_then c.loop-batch.invariant.stays (stays_by c.perform.ensures.keeps (c.perform.ensures.rest refl));
}

pub returns-then-not-join-clause-events : goal.returns-then-not-join-clause-events
returns-then-not-join-clause-events g c = record {
  made = (
      let i = c.loop-batch.invariant in
      let l : c.args.cpu < length c.perform.new.self.core.processors.items = subst (λ n. c.args.cpu < n) (sym c.perform.ensures.keeps.len ∙ length-map c.perform.new.self.core.processors.items (seen g.J.Job.key_of)) i.there in
      let s = seen_there g.J.Job.key_of c.perform.new.self.core c.args.cpu c.index.result.now l c.index.ensures in
      drawn_waits c.args.cpu c.loop-batch.batch _ _ _ _ c.loop-batch.took c.drawn_len-drawn.result (omega arith) i.there i.drawn (sym c.perform.ensures.enabled ∙ c.if-not-perform.false) c.perform.ensures.leads.1
      (waits_where c.args.cpu c.join.result _ _ c.if-not-join.true c.join.ensures.events.leads) (c.drawn_len-drawn.ensures ∙ ap {A = Cpu} (λ x. length x.drawn) s)
      );
  stays = stays_then c.loop-batch.invariant.stays (stays_then (stays_by c.perform.ensures.keeps (c.perform.ensures.rest refl)) c.join.ensures.events.stays);
}

pub overflow_add-took : goal.overflow_add-took
overflow_add-took g c =
    let l : c.args.cpu < length c.perform.new.self.core.processors.items = subst (λ n. c.args.cpu < n) (sym c.perform.ensures.keeps.len ∙ length-map c.perform.new.self.core.processors.items (seen g.J.Job.key_of)) c.loop-batch.invariant.there in
    let s = seen_there g.J.Job.key_of c.perform.new.self.core c.args.cpu c.index.result.now l c.index.ensures in
    let f = few_drawn (state g.J.Job.key_of c.perform.new.self.core) c.args.cpu c.perform.ensures.keeps.kept.fit (subst (λ n. c.args.cpu < n) (sym c.perform.ensures.keeps.len) c.loop-batch.invariant.there) in
    omega (arith, c.loop-batch.invariant.most, f, c.drawn_len-drawn.ensures ∙ ap {A = Cpu} (λ x. length x.drawn) s)

pub returns-then-not-join-clause-most : goal.returns-then-not-join-clause-most
returns-then-not-join-clause-most g c =
    let l : c.args.cpu < length c.perform.new.self.core.processors.items = subst (λ n. c.args.cpu < n) (sym c.perform.ensures.keeps.len ∙ length-map c.perform.new.self.core.processors.items (seen g.J.Job.key_of)) c.loop-batch.invariant.there in
    let s = seen_there g.J.Job.key_of c.perform.new.self.core c.args.cpu c.index.result.now l c.index.ensures in
    let f = few_drawn (state g.J.Job.key_of c.perform.new.self.core) c.args.cpu c.perform.ensures.keeps.kept.fit (subst (λ n. c.args.cpu < n) (sym c.perform.ensures.keeps.len) c.loop-batch.invariant.there) in
    omega (arith, c.loop-batch.invariant.most, f, c.drawn_len-drawn.ensures ∙ ap {A = Cpu} (λ x. length x.drawn) s)

pub loop-batch-preserved : goal.loop-batch-preserved
loop-batch-preserved g c =
    let i = c.loop-batch.invariant in
    let l : c.args.cpu < length c.perform.new.self.core.processors.items = subst (λ n. c.args.cpu < n) (sym c.perform.ensures.keeps.len ∙ length-map c.perform.new.self.core.processors.items (seen g.J.Job.key_of)) i.there in
    let s = seen_there g.J.Job.key_of c.perform.new.self.core c.args.cpu c.index.result.now l c.index.ensures in
    let d = c.drawn_len-drawn.ensures ∙ ap {A = Cpu} (λ x. length x.drawn) s in
    let f = few_drawn (state g.J.Job.key_of c.perform.new.self.core) c.args.cpu c.perform.ensures.keeps.kept.fit (subst (λ n. c.args.cpu < n) (sym c.perform.ensures.keeps.len) i.there) in
    record {
      drawn = drawn_one c.args.cpu c.loop-batch.batch _ _ _ _ c.loop-batch.took c.drawn_len-drawn.result (omega arith) i.there i.drawn (sym c.perform.ensures.enabled ∙ c.if-not-perform.false) c.perform.ensures.leads.1
          (joins_where c.args.cpu c.join.result _ _ c.if-not-join.false c.join.ensures.events.leads) d;
      most = omega (arith, i.most, f, d);
      there = subst (λ n. c.args.cpu < n) (sym (c.join.ensures.events.stays.len ∙ c.perform.ensures.keeps.len)) i.there;
      stays = stays_then i.stays (stays_then (stays_by c.perform.ensures.keeps (c.perform.ensures.rest refl)) c.join.ensures.events.stays);
    }

pub returns-clause-events : goal.returns-clause-events
returns-clause-events g c = record {
  made = drawn_all c.args.cpu c.loop-batch.batch _ _ _ (omega arith) c.loop-batch.invariant.drawn;
  stays = c.loop-batch.invariant.stays;
}

pub index-requires : goal.index-requires
index-requires g c = omega (arith, subst (λ n. c.args.cpu < n) (sym c.perform.ensures.keeps.len ∙ length-map c.perform.new.self.core.processors.items (seen g.J.Job.key_of)) c.loop-batch.invariant.there, c.perform.new.self.core.processors.ok.0)

pub perform-requires-send-J : goal.perform-requires-send-J
perform-requires-send-J g c κs within = c.type_bounds.send-J

pub perform-requires-send-J-Receipt : goal.perform-requires-send-J-Receipt
perform-requires-send-J-Receipt g c κs within = c.type_bounds.send-J-Receipt

pub join-requires-send-J : goal.join-requires-send-J
join-requires-send-J g c κs within = c.type_bounds.send-J

pub join-requires-send-J-Receipt : goal.join-requires-send-J-Receipt
join-requires-send-J-Receipt g c κs within = c.type_bounds.send-J-Receipt

pub perform-requires-after_bounds : goal.perform-requires-after_bounds
perform-requires-after_bounds g c κs within = (assumption, (c.loop-batch.invariant.stays.kept, refl))

pub join-requires-after_bounds : goal.join-requires-after_bounds
join-requires-after_bounds g c κs within = (assumption, c.perform.ensures.keeps.kept)
