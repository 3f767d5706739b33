use Rattle.std.proofs.Common.{rules, ◌≡◌, ◌∙◌, true, false, not, ap, sym}
use Rattle.rcu_world_law.specs.Lists.{is_none}
use Rattle.rcu_world_law.specs.Steps.{fresh_calls}
use Rattle.rcu_world_processor.specs.Views.{fresh_call}
use Rattle.rcu_world_processor.proofs.call.WorldProcessor+J+J+Receipt.take_fresh.Goals as goal

pub unreachable-requires : goal.unreachable-requires
unreachable-requires g c = let e : false ≡ true = ap (λ x. not (is_none (fresh_call g.J.Job.key_of x))) c.in_default.ensures.value ∙ c.requires in cc

pub returns-clause-callback : goal.returns-clause-callback
returns-clause-callback g c = ap (λ x. fresh_calls c.args.number (fresh_call g.J.Job.key_of x)) (sym c.in-Some.ensures.value)

pub returns-clause-step : goal.returns-clause-step
returns-clause-step g c = record { made = search rules; given = search rules }
