use Rattle.std.proofs.Common.{arith, refl}
use Rattle.rcu_part_processor.proofs.TickRuns.{same_processor}
use Rattle.rcu_part_processor.specs.Processors.{IsSound, SameProcessor}
use Rattle.test_parts.proofs.phases.acts.act_at.Goals as goal
use Rattle.rcu_lemmas.proofs.Zips.{zip_same}
use Rattle.rcu_lemmas.proofs.Changed.{all_changed, zip_changed}

pub returns-then-cpu-len-clause-same : goal.returns-then-cpu-len-clause-same
returns-then-cpu-len-clause-same g c = zip_same (λ p q. SameProcessor p.state q.state) (λ p. same_processor p.state) c.args.processors.now.items

pub returns-clause-same : goal.returns-clause-same
returns-clause-same g c = zip_changed (λ p q. SameProcessor p.state q.state) (λ p. same_processor p.state) c.args.processors.now.items c.args.cpu c.index_mut.result.now c.act_one.new.processor (omega arith) c.index_mut.ensures.value c.act_one.ensures.same

pub returns-clause-sound : goal.returns-clause-sound
returns-clause-sound g c = all_changed (λ p. IsSound g.J.Job.key_of g.J.Job.gives p.state) c.args.processors.now.items c.args.cpu c.index_mut.result.now c.act_one.new.processor (omega arith) c.index_mut.ensures.value c.act_one.ensures.sound

pub act_one-requires-send-J : goal.act_one-requires-send-J
act_one-requires-send-J g c κs within = assumption

pub act_one-requires-after_bounds : goal.act_one-requires-after_bounds
act_one-requires-after_bounds g c κs within = assumption

pub returns-clause-none : goal.returns-clause-none
returns-clause-none g c long = absurd (let z : ⊥ = omega (arith, long) in z)

pub returns-clause-acts : goal.returns-clause-acts
returns-clause-acts g c there = record { before = c.index_mut.result.now; after = c.act_one.new.processor; is = c.index_mut.ensures.value; acts = c.act_one.ensures.acts; others = refl }

pub returns-then-cpu-len-clause-none : goal.returns-then-cpu-len-clause-none
returns-then-cpu-len-clause-none g c long = (refl, refl)

pub returns-then-cpu-len-clause-acts : goal.returns-then-cpu-len-clause-acts
returns-then-cpu-len-clause-acts g c there = absurd (let z : ⊥ = omega (arith, there) in z)
