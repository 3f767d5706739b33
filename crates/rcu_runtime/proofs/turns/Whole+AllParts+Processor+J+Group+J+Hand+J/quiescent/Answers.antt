use Rattle.std.proofs.Common.{arith, refl}
use Rattle.rcu_runtime.specs.Calls.{ReportsOnce}
use Rattle.rcu_runtime.proofs.Wholes.{called_count, called_on, called_whole}
use Rattle.rcu_runtime.proofs.Seen.{finds_none, in_vec}
use Rattle.rcu_runtime.proofs.turns.Whole+AllParts+Processor+J+Group+J+Hand+J.quiescent.Goals as goal

pub invariant_of-self : goal.invariant_of-self
invariant_of-self g c = called_whole c.args.self.now c.self.inside.parts c.self.view_is c.args.p c.processors.result c.index_mut.result.now c.quiescent.new.self c.if-p-processors.false c.processors.ensures c.index_mut.ensures.value g.J.Job.key_of g.J.Job.gives c.self.inside.limit c.quiescent.ensures.same c.quiescent.ensures.sound c.self.invariant

pub returns-clause-ok : goal.returns-clause-ok
returns-clause-ok g c = called_on c.args.self.now c.self.inside.parts c.self.view_is c.args.p c.processors.result c.index_mut.result.now c.quiescent.new.self c.if-p-processors.false c.processors.ensures c.index_mut.ensures.value (ReportsOnce c.quiescent.result) c.self.invariant.close.one c.quiescent.ensures.same (let h = c.quiescent.ensures.keeps.count in omega (arith, h)) (record { reports = c.quiescent.ensures.reports; keeps = c.quiescent.ensures.keeps })

pub returns-clause-none : goal.returns-clause-none
returns-clause-none g c = called_count c.args.self.now c.self.inside.parts c.self.view_is c.args.p c.processors.result c.index_mut.result.now c.quiescent.new.self c.if-p-processors.false c.processors.ensures c.index_mut.ensures.value c.quiescent.ensures.keeps.count

pub processors-requires-send-J : goal.processors-requires-send-J
processors-requires-send-J g c κs within = c.type_bounds.send-J

pub processors-requires-send-J-Receipt : goal.processors-requires-send-J-Receipt
processors-requires-send-J-Receipt g c κs within = c.type_bounds.send-J-Receipt

pub processors-requires-after_bounds : goal.processors-requires-after_bounds
processors-requires-after_bounds g c κs within = assumption

pub returns-then-p-processors-clause-err : goal.returns-then-p-processors-clause-err
returns-then-p-processors-clause-err g c = finds_none c.args.self.now c.args.p c.processors.result c.if-p-processors.true c.processors.ensures

pub returns-then-p-processors-clause-none : goal.returns-then-p-processors-clause-none
returns-then-p-processors-clause-none g c = refl

pub index_mut-requires : goal.index_mut-requires
index_mut-requires g c = in_vec c.args.self.now c.self.inside.parts c.self.view_is c.args.p c.processors.result c.if-p-processors.false c.processors.ensures

pub quiescent-requires-send-J : goal.quiescent-requires-send-J
quiescent-requires-send-J g c κs within = c.type_bounds.send-J

pub quiescent-requires-send-J-Receipt : goal.quiescent-requires-send-J-Receipt
quiescent-requires-send-J-Receipt g c κs within = c.type_bounds.send-J-Receipt

pub quiescent-requires-after_bounds : goal.quiescent-requires-after_bounds
quiescent-requires-after_bounds g c κs within = assumption
