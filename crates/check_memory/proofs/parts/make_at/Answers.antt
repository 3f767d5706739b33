use Rattle.std.proofs.Common.{arith}
use Rattle.rcu_part_processor.proofs.TickRuns.{same_processor}
use Rattle.rcu_part_processor.specs.Processors.{IsSound, SameProcessor}
use Rattle.check_memory.specs.Works.{IsOwnKey, key_of_work}
use Rattle.check_memory.proofs.parts.make_at.Goals as goal
use Rattle.rcu_lemmas.proofs.Zips.{zip_same}
use Rattle.rcu_lemmas.proofs.Changed.{all_changed, zip_changed}

pub returns-then-place-len-clause-same : goal.returns-then-place-len-clause-same
returns-then-place-len-clause-same c = zip_same (λ p q. SameProcessor p.state q.state) (λ p. same_processor p.state) c.args.processors.now.items

pub returns-clause-same : goal.returns-clause-same
returns-clause-same c = zip_changed (λ p q. SameProcessor p.state q.state) (λ p. same_processor p.state) c.args.processors.now.items c.args.place c.index_mut.result.now c.make_one.new.processor (omega arith) c.index_mut.ensures.value c.make_one.ensures.same

pub returns-clause-sound : goal.returns-clause-sound
returns-clause-sound c = all_changed (λ p. IsSound key_of_work IsOwnKey p.state) c.args.processors.now.items c.args.place c.index_mut.result.now c.make_one.new.processor (omega arith) c.index_mut.ensures.value c.make_one.ensures.sound
