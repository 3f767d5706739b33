use Rattle.std.proofs.Common.{◌∙◌, ◌≤◌, ap, arith, length, refl, ℕ}
use Rattle.std.proofs.lemmas.List.{length-map, length-set, length-replicate}
use Rattle.rcu_world_law.specs.Lists.{value_or}
use Rattle.rcu_world_law.specs.States.{barrier_at, count_at}
use Rattle.rcu_world.specs.Barrings.{barrier}
use Rattle.rcu_world.specs.Views.{state}
use Rattle.rcu_world.proofs.Seen.{barrier_seen}
use Rattle.rcu_world.proofs.Counting.{counts_more}
use Rattle.rcu_world_processor.specs.Views.{seen}
use Rattle.rcu_world.proofs.Places.{few_in_vec, in_vec, steps_on}
use Rattle.rcu_world.proofs.worlds.World.kept_counts.Goals as goal

pub loop-cpu-preserved : goal.loop-cpu-preserved
loop-cpu-preserved g c =
    let i = c.loop-cpu.invariant in
    let w = state g.J.Job.key_of c.args.self.now.core in
    let s = (barrier_seen g.J.Job.key_of c.args.self.now.core c.args.barrier c.index-kept.result.now c.index-kept.result.now (λ x. x) (omega (arith, c.requires.there, length-map c.args.self.now.core.barriers.items barrier)) c.index-kept.ensures refl).0 in
    record {
      all = c.set.ensures.processors ∙ i.all;
      len = ap length c.set.ensures.one ∙ length-set c.loop-cpu.counts.counts c.loop-cpu.cpu c.kept.result ∙ i.len;
      each = counts_more c.loop-cpu.counts.counts _ c.loop-cpu.cpu c.kept.result (λ p. value_or (count_at (barrier_at w c.args.barrier) p)) (omega (arith, i.len, c.requires.few)) i.each
          (c.kept.ensures ∙ ap (λ x. value_or (count_at x c.loop-cpu.cpu)) s) c.set.ensures.one;
    }

pub loop-cpu-init : goal.loop-cpu-init
loop-cpu-init g c = record {
  all = omega (arith, c.new-counts.ensures.processors, length-map c.args.self.now.core.processors.items (seen g.J.Job.key_of));
  len = ap length c.new-counts.ensures.zero ∙ length-replicate {A = ℕ} 1024 0;
  each = λ p l. absurd (omega (arith, l));
}

pub set-requires : goal.set-requires
set-requires g c = omega (arith, c.loop-cpu.invariant.all, length-map c.args.self.now.core.processors.items (seen g.J.Job.key_of))

pub returns-clause-each : goal.returns-clause-each
returns-clause-each g c = λ p l. c.loop-cpu.invariant.each p (omega (arith, l, length-map c.args.self.now.core.processors.items (seen g.J.Job.key_of)))

pub index-kept-requires : goal.index-kept-requires
index-kept-requires g c = in_vec _ _ _ _ c.requires.there (length-map c.args.self.now.core.barriers.items barrier) c.args.self.now.core.barriers.ok.0

pub new-counts-requires : goal.new-counts-requires
new-counts-requires g c = let few : c.len-n.result ≤ 32 = few_in_vec _ _ _ _ _ c.len-n.ensures c.args.self.now.core.processors.ok.0 (length-map c.args.self.now.core.processors.items (seen g.J.Job.key_of)) c.requires.few in omega (arith, few)

pub loop-cpu-smaller : goal.loop-cpu-smaller
loop-cpu-smaller g c = steps_on _ _ c.loop-cpu-test.true

pub returns-clause-all : goal.returns-clause-all
returns-clause-all g c = c.loop-cpu.invariant.all
