use Rattle.std.proofs.Common.{ℕ, ◌∙◌, ◌<◌, ◌≤◌, ap, arith, length, subst}
use Rattle.std.proofs.lemmas.List.{length-map, length-set, length-replicate}
use denote.Param.{param}
use Rattle.rcu_world_law.specs.States.{cpu_at}
use Rattle.rcu_world_processor.specs.Views.{seen}
use Rattle.rcu_world.specs.Views.{state}
use Rattle.rcu_world.proofs.Fitting.{fits_there}
use Rattle.rcu_world.proofs.Leading.{seen_there}
use Rattle.rcu_world.proofs.Counting.{counts_more}
use Rattle.rcu_world.proofs.Places.{few_in_vec, steps_on}
use Rattle.rcu_world.proofs.worlds.World.counts.Goals as goal

pub loop-cpu-init : goal.loop-cpu-init
loop-cpu-init g c = record {
  all = omega (arith, c.new-counts.ensures.processors, length-map c.args.self.now.core.processors.items (seen g.J.Job.key_of));
  len = ap length c.new-counts.ensures.zero ∙ length-replicate {A = ℕ} 1024 0;
  each = λ p l. absurd (omega (arith, l));
}

pub count-requires-send-J : goal.count-requires-send-J
count-requires-send-J g c κs within = c.type_bounds.send-J

pub count-requires-send-J-Receipt : goal.count-requires-send-J-Receipt
count-requires-send-J-Receipt g c κs within = c.type_bounds.send-J-Receipt

pub count-requires-after_bounds : goal.count-requires-after_bounds
count-requires-after_bounds g c κs within = fits_there (param 0 g.row.J) (param 1 g.row.J-Receipt) assumption

pub set-requires : goal.set-requires
set-requires g c = omega (arith, c.loop-cpu.invariant.all, length-map c.args.self.now.core.processors.items (seen g.J.Job.key_of))

pub returns : goal.returns
returns g c = record {
  all = c.loop-cpu.invariant.all;
  each = λ p l. c.loop-cpu.invariant.each p (omega (arith, l, length-map c.args.self.now.core.processors.items (seen g.J.Job.key_of)));
}

pub loop-cpu-preserved : goal.loop-cpu-preserved
loop-cpu-preserved g c =
    let i = c.loop-cpu.invariant in
    let l : c.loop-cpu.cpu < length c.args.self.now.core.processors.items = subst (λ n. c.loop-cpu.cpu < n) (c.len-n.ensures ∙ c.args.self.now.core.processors.ok.0) c.loop-cpu-test.true in
    record {
      all = c.set.ensures.processors ∙ i.all;
      len = ap length c.set.ensures.one ∙ length-set c.loop-cpu.counts.counts c.loop-cpu.cpu c.count.result ∙ i.len;
      each = counts_more c.loop-cpu.counts.counts _ c.loop-cpu.cpu c.count.result (λ p. (cpu_at (state g.J.Job.key_of c.args.self.now.core) p).count) (omega (arith, i.len, c.requires)) i.each
          (c.count.ensures ∙ ap (λ x. x.count) (seen_there g.J.Job.key_of c.args.self.now.core c.loop-cpu.cpu c.index.result.now l c.index.ensures)) c.set.ensures.one;
    }

pub new-counts-requires : goal.new-counts-requires
new-counts-requires g c = let few : c.len-n.result ≤ 32 = few_in_vec _ _ _ _ _ c.len-n.ensures c.args.self.now.core.processors.ok.0 (length-map c.args.self.now.core.processors.items (seen g.J.Job.key_of)) c.requires in omega (arith, few)

pub index-requires : goal.index-requires
index-requires g c = subst (λ n. c.loop-cpu.cpu < n) c.len-n.ensures c.loop-cpu-test.true

pub loop-cpu-smaller : goal.loop-cpu-smaller
loop-cpu-smaller g c = steps_on _ _ c.loop-cpu-test.true
