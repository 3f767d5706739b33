use Rattle.std.proofs.Common.{refl}
use Rattle.rcu_lists.specs.declared.pace.Kind.TheVariants.{Plain}
use Rattle.rcu_runtime.proofs.Accepted.{accepted_err, accepted_none, accepted_ok, accepted_one}
use Rattle.rcu_runtime.proofs.Wholes.{called_whole}
use Rattle.rcu_runtime.proofs.Seen.{finds_none, in_vec}
use Rattle.rcu_runtime.proofs.call.Whole+AllParts+Processor+J+Group+J+Hand+J.call_rcu.Goals as goal

pub invariant_of-self : goal.invariant_of-self
invariant_of-self g c = called_whole c.args.self.now c.self.inside.parts c.self.view_is c.args.p c.processors.result c.index_mut.result.now c.call_rcu.new.self c.if-p-processors.false c.processors.ensures c.index_mut.ensures.value g.J.Job.key_of g.J.Job.gives c.self.inside.limit c.call_rcu.ensures.calls.same c.call_rcu.ensures.calls.sound c.self.invariant

pub returns-clause-ok : goal.returns-clause-ok
returns-clause-ok g c = rw c.given_back.ensures (accepted_ok c.args.self.now c.self.inside.parts c.self.view_is c.args.p c.processors.result c.index_mut.result.now c.call_rcu.new.self c.if-p-processors.false c.processors.ensures c.index_mut.ensures.value c.args.moment Plain (g.J.Job.key_of c.args.job) c.args.job c.call_rcu.result c.self.invariant.close.one (record { same = c.call_rcu.ensures.calls.same; ok = c.call_rcu.ensures.calls.ok; err = c.call_rcu.ensures.calls.err; refused = c.call_rcu.ensures.calls.refused; full = c.call_rcu.ensures.calls.full }))

pub returns-clause-err : goal.returns-clause-err
returns-clause-err g c = rw c.given_back.ensures (accepted_err c.args.self.now c.self.inside.parts c.self.view_is c.args.p c.processors.result c.index_mut.result.now c.call_rcu.new.self c.if-p-processors.false c.processors.ensures c.index_mut.ensures.value c.args.moment Plain (g.J.Job.key_of c.args.job) c.args.job c.call_rcu.result c.self.invariant.close.one (record { same = c.call_rcu.ensures.calls.same; ok = c.call_rcu.ensures.calls.ok; err = c.call_rcu.ensures.calls.err; refused = c.call_rcu.ensures.calls.refused; full = c.call_rcu.ensures.calls.full }))

pub returns-clause-one : goal.returns-clause-one
returns-clause-one g c = rw c.given_back.ensures (accepted_one c.args.self.now c.self.inside.parts c.self.view_is c.args.p c.processors.result c.index_mut.result.now c.call_rcu.new.self c.if-p-processors.false c.processors.ensures c.index_mut.ensures.value c.args.moment Plain (g.J.Job.key_of c.args.job) c.args.job c.call_rcu.result (record { same = c.call_rcu.ensures.calls.same; ok = c.call_rcu.ensures.calls.ok; err = c.call_rcu.ensures.calls.err; refused = c.call_rcu.ensures.calls.refused; full = c.call_rcu.ensures.calls.full }))

pub returns-clause-none : goal.returns-clause-none
returns-clause-none g c = rw c.given_back.ensures (accepted_none c.args.self.now c.self.inside.parts c.self.view_is c.args.p c.processors.result c.index_mut.result.now c.call_rcu.new.self c.if-p-processors.false c.processors.ensures c.index_mut.ensures.value c.args.moment Plain (g.J.Job.key_of c.args.job) c.args.job c.call_rcu.result (record { same = c.call_rcu.ensures.calls.same; ok = c.call_rcu.ensures.calls.ok; err = c.call_rcu.ensures.calls.err; refused = c.call_rcu.ensures.calls.refused; full = c.call_rcu.ensures.calls.full }))

pub processors-requires-send-J : goal.processors-requires-send-J
processors-requires-send-J g c κs within = c.type_bounds.send-J

pub processors-requires-send-J-Receipt : goal.processors-requires-send-J-Receipt
processors-requires-send-J-Receipt g c κs within = c.type_bounds.send-J-Receipt

pub processors-requires-after_bounds : goal.processors-requires-after_bounds
processors-requires-after_bounds g c κs within = assumption

pub returns-then-p-processors-clause-err : goal.returns-then-p-processors-clause-err
returns-then-p-processors-clause-err g c = (refl, finds_none c.args.self.now c.args.p c.processors.result c.if-p-processors.true c.processors.ensures)

pub returns-then-p-processors-clause-none : goal.returns-then-p-processors-clause-none
returns-then-p-processors-clause-none g c = refl

pub index_mut-requires : goal.index_mut-requires
index_mut-requires g c = in_vec c.args.self.now c.self.inside.parts c.self.view_is c.args.p c.processors.result c.if-p-processors.false c.processors.ensures

pub call_rcu-requires-send-J : goal.call_rcu-requires-send-J
call_rcu-requires-send-J g c κs within = c.type_bounds.send-J

pub call_rcu-requires-send-J-Receipt : goal.call_rcu-requires-send-J-Receipt
call_rcu-requires-send-J-Receipt g c κs within = c.type_bounds.send-J-Receipt

pub call_rcu-requires-after_bounds : goal.call_rcu-requires-after_bounds
call_rcu-requires-after_bounds g c κs within = assumption
