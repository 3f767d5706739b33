use Rattle.std.proofs.Common.{arith, refl}
use Rattle.rcu_runtime.specs.Turns.{Ticks}
use Rattle.rcu_runtime.proofs.Wholes.{called_count, called_on, called_whole}
use Rattle.rcu_runtime.proofs.Seen.{finds_none, in_vec}
use Rattle.rcu_runtime.proofs.turns.Whole+AllParts+Processor+J+Group+J+Hand+J.tick.Goals as goal

pub invariant_of-self : goal.invariant_of-self
invariant_of-self g c = called_whole c.args.self.now c.self.inside.parts c.self.view_is c.args.p c.processors.result c.index_mut.result.now c.tick.new.self c.if-p-processors.false c.processors.ensures c.index_mut.ensures.value g.J.Job.key_of g.J.Job.gives c.self.inside.limit c.tick.ensures.same c.tick.ensures.sound c.self.invariant

pub returns-clause-ok : goal.returns-clause-ok
returns-clause-ok g c = called_on c.args.self.now c.self.inside.parts c.self.view_is c.args.p c.processors.result c.index_mut.result.now c.tick.new.self c.if-p-processors.false c.processors.ensures c.index_mut.ensures.value (Ticks c.args.moment c.tick.result) c.self.invariant.close.one c.tick.ensures.same (let h = c.tick.ensures.count in omega (arith, h)) (record { ticks = c.tick.ensures.ticks; few = c.tick.ensures.few; first = c.tick.ensures.first; fresh = c.tick.ensures.fresh; local = c.tick.ensures.local; none = c.tick.ensures.none })

pub returns-clause-none : goal.returns-clause-none
returns-clause-none g c = called_count c.args.self.now c.self.inside.parts c.self.view_is c.args.p c.processors.result c.index_mut.result.now c.tick.new.self c.if-p-processors.false c.processors.ensures c.index_mut.ensures.value c.tick.ensures.count

pub processors-requires-send-J : goal.processors-requires-send-J
processors-requires-send-J g c κs within = c.type_bounds.send-J

pub processors-requires-send-J-Receipt : goal.processors-requires-send-J-Receipt
processors-requires-send-J-Receipt g c κs within = c.type_bounds.send-J-Receipt

pub processors-requires-after_bounds : goal.processors-requires-after_bounds
processors-requires-after_bounds g c κs within = assumption

pub returns-then-p-processors-clause-err : goal.returns-then-p-processors-clause-err
returns-then-p-processors-clause-err g c = finds_none c.args.self.now c.args.p c.processors.result c.if-p-processors.true c.processors.ensures

pub returns-then-p-processors-clause-none : goal.returns-then-p-processors-clause-none
returns-then-p-processors-clause-none g c = refl

pub index_mut-requires : goal.index_mut-requires
index_mut-requires g c = in_vec c.args.self.now c.self.inside.parts c.self.view_is c.args.p c.processors.result c.if-p-processors.false c.processors.ensures

pub tick-requires-send-J : goal.tick-requires-send-J
tick-requires-send-J g c κs within = c.type_bounds.send-J

pub tick-requires-send-J-Receipt : goal.tick-requires-send-J-Receipt
tick-requires-send-J-Receipt g c κs within = c.type_bounds.send-J-Receipt

pub tick-requires-after_bounds : goal.tick-requires-after_bounds
tick-requires-after_bounds g c κs within = assumption
