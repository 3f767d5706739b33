use Rattle.rcu_runtime.proofs.Seen.{left_of, none_answers, within_limit}
use Rattle.rcu_runtime.proofs.shown.Whole+AllParts+Processor+J+Group+J+Hand+J.left.Goals as goal

pub returns : goal.returns
returns g c = record { counts = left_of c.args.self.now c.self.inside.parts c.self.view_is c.args.p c.self.inside.limit c.accepted.result c.in_ok-processor.field-0.now c.self.invariant.limits c.accepted.ensures c.in_ok-processor.ensures.finds }

pub processor-requires-send-J : goal.processor-requires-send-J
processor-requires-send-J g c κs within = c.type_bounds.send-J

pub processor-requires-send-J-Receipt : goal.processor-requires-send-J-Receipt
processor-requires-send-J-Receipt g c κs within = c.type_bounds.send-J-Receipt

pub processor-requires-after_bounds : goal.processor-requires-after_bounds
processor-requires-after_bounds g c κs within = assumption

pub returns-in_err-processor : goal.returns-in_err-processor
returns-in_err-processor g c = record { counts = none_answers _ c.in_err-processor.field-0.0 c.args.p _ c.args.self.now c.from_residual.ensures c.in_err-processor.ensures.finds }

pub accepted-requires-send-J : goal.accepted-requires-send-J
accepted-requires-send-J g c κs within = c.type_bounds.send-J

pub accepted-requires-send-J-Receipt : goal.accepted-requires-send-J-Receipt
accepted-requires-send-J-Receipt g c κs within = c.type_bounds.send-J-Receipt

pub accepted-requires-after_bounds : goal.accepted-requires-after_bounds
accepted-requires-after_bounds g c κs within = assumption

pub overflow_sub-result : goal.overflow_sub-result
overflow_sub-result g c = within_limit c.args.self.now c.self.inside.parts c.self.view_is c.args.p c.self.inside.limit c.accepted.result c.in_ok-processor.field-0.now c.self.invariant.limits c.accepted.ensures c.in_ok-processor.ensures.finds
