use Rattle.rcu_lists.proofs.Outcomes.{if_ok_never}
use Rattle.rcu_runtime.specs.Calls.{IsNone}
use Rattle.rcu_runtime.proofs.Outcomes.{on_fault}
use Rattle.rcu_runtime.proofs.shown.Whole+AllParts+Processor+J+Group+J+Hand+J.reading.Goals as goal

pub processor-requires-send-J : goal.processor-requires-send-J
processor-requires-send-J g c κs within = c.type_bounds.send-J

pub processor-requires-send-J-Receipt : goal.processor-requires-send-J-Receipt
processor-requires-send-J-Receipt g c κs within = c.type_bounds.send-J-Receipt

pub processor-requires-after_bounds : goal.processor-requires-after_bounds
processor-requires-after_bounds g c κs within = assumption

pub returns-in_err-processor-clause-there : goal.returns-in_err-processor-clause-there
returns-in_err-processor-clause-there g c = if_ok_never _ _ c.from_residual.ensures

pub returns-in_err-processor-clause-err : goal.returns-in_err-processor-clause-err
returns-in_err-processor-clause-err g c = on_fault _ c.in_err-processor.field-0.0 (λ fault. IsNone c.args.p fault c.args.self.now) c.from_residual.ensures c.in_err-processor.ensures.finds

pub reading-requires-send-J : goal.reading-requires-send-J
reading-requires-send-J g c κs within = c.type_bounds.send-J

pub reading-requires-send-J-Receipt : goal.reading-requires-send-J-Receipt
reading-requires-send-J-Receipt g c κs within = c.type_bounds.send-J-Receipt

pub reading-requires-after_bounds : goal.reading-requires-after_bounds
reading-requires-after_bounds g c κs within = assumption

pub returns-clause-there : goal.returns-clause-there
returns-clause-there g c = c.in_ok-processor.ensures.finds.is.there
