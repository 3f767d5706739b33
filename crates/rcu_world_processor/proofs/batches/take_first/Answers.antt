use Rattle.std.proofs.Common.{◌≡◌, ◌∙◌, true, false, ap, sym}
use Rattle.rcu_world_law.specs.Lists.{is_nil, tail}
use Rattle.rcu_world_law.specs.Steps.{front}
use Rattle.rcu_world_processor.specs.Waits.{calls}
use Rattle.rcu_world_processor.proofs.batches.take_first.Goals as goal

pub take_first-requires : goal.take_first-requires
take_first-requires g c = assumption

pub unreachable-requires : goal.unreachable-requires
unreachable-requires g c = let e : true ≡ false = ap (λ cs. is_nil (calls g.J.Job.key_of cs)) (sym c.in_default.ensures.0) ∙ c.requires in cc

pub returns-clause-first : goal.returns-clause-first
returns-clause-first g c = ap (λ cs. front (calls g.J.Job.key_of cs)) (sym c.in-Some.ensures)

pub returns-clause-rest : goal.returns-clause-rest
returns-clause-rest g c = ap (λ cs. tail (calls g.J.Job.key_of cs)) (sym c.in-Some.ensures)
