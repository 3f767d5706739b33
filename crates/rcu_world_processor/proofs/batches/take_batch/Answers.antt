use Rattle.std.proofs.Common.{◌≡◌, ◌∙◌, true, false, ap, sym}
use Rattle.rcu_world_law.specs.Lists.{first_batch, is_nil, tail}
use Rattle.rcu_world_processor.specs.Batches.{batches}
use Rattle.rcu_world_processor.proofs.Taking.{none_first}
use Rattle.rcu_world_processor.proofs.batches.take_batch.Goals as goal

pub returns-clause-first : goal.returns-clause-first
returns-clause-first g c = ap (λ bs. first_batch (batches g.J.Job.key_of bs)) (sym c.in-Some.ensures.items)

pub returns-clause-rest : goal.returns-clause-rest
returns-clause-rest g c = ap (λ bs. tail (batches g.J.Job.key_of bs)) (sym c.in-Some.ensures.items)

pub unreachable-requires : goal.unreachable-requires
unreachable-requires g c =
    let n = none_first _ _ c.in_default.ensures.items c.in_default.ensures.rest in
    let e : true ≡ false = ap (λ bs. is_nil (batches g.J.Job.key_of bs)) (sym n) ∙ c.requires in cc
