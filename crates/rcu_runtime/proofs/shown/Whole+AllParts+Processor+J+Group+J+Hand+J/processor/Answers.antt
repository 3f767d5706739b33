use Rattle.rcu_runtime.proofs.Seen.{in_vec, is_none, of_processor}
use Rattle.rcu_runtime.proofs.shown.Whole+AllParts+Processor+J+Group+J+Hand+J.processor.Goals as goal

pub returns : goal.returns
returns g c = record { finds = of_processor c.args.self.now c.self.inside.parts c.self.view_is c.args.p c.processors.result c.index.result.now c.if-p-processors.false c.processors.ensures c.index.ensures c.self.invariant.close.one }

pub processors-requires-send-J : goal.processors-requires-send-J
processors-requires-send-J g c κs within = c.type_bounds.send-J

pub processors-requires-send-J-Receipt : goal.processors-requires-send-J-Receipt
processors-requires-send-J-Receipt g c κs within = c.type_bounds.send-J-Receipt

pub processors-requires-after_bounds : goal.processors-requires-after_bounds
processors-requires-after_bounds g c κs within = assumption

pub returns-then-p-processors : goal.returns-then-p-processors
returns-then-p-processors g c = record { finds = is_none c.args.self.now c.args.p c.processors.result c.if-p-processors.true c.processors.ensures }

pub index-requires : goal.index-requires
index-requires g c = in_vec c.args.self.now c.self.inside.parts c.self.view_is c.args.p c.processors.result c.if-p-processors.false c.processors.ensures
