use Rattle.std.proofs.Common.{◌∙◌, ap, sym}
use Rattle.rcu_part_lists.specs.ProcessorLists.{cpu_lists}
use Rattle.rcu_part_processor.specs.Processors.{lists_of}
use Rattle.rcu_runtime.proofs.Seen.{none_answers, of_weaker}
use Rattle.rcu_runtime.proofs.shown.Whole+AllParts+Processor+J+Group+J+Hand+J.lists.Goals as goal

pub returns : goal.returns
returns g c = record { shows = of_weaker _ _ c.args.p c.args.self.now (λ q e. c.lists.ensures ∙ ap (λ p. cpu_lists p.state.accepted (lists_of p.state)) (sym e)) c.in_ok-processor.ensures.finds }

pub processor-requires-send-J : goal.processor-requires-send-J
processor-requires-send-J g c κs within = c.type_bounds.send-J

pub processor-requires-send-J-Receipt : goal.processor-requires-send-J-Receipt
processor-requires-send-J-Receipt g c κs within = c.type_bounds.send-J-Receipt

pub processor-requires-after_bounds : goal.processor-requires-after_bounds
processor-requires-after_bounds g c κs within = assumption

pub returns-in_err-processor : goal.returns-in_err-processor
returns-in_err-processor g c = record { shows = none_answers _ c.in_err-processor.field-0.0 c.args.p _ c.args.self.now c.from_residual.ensures c.in_err-processor.ensures.finds }

pub lists-requires-send-J : goal.lists-requires-send-J
lists-requires-send-J g c κs within = c.type_bounds.send-J

pub lists-requires-send-J-Receipt : goal.lists-requires-send-J-Receipt
lists-requires-send-J-Receipt g c κs within = c.type_bounds.send-J-Receipt

pub lists-requires-after_bounds : goal.lists-requires-after_bounds
lists-requires-after_bounds g c κs within = assumption
