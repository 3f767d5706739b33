use Rattle.rcu_runtime.proofs.Drains.{still_shut}
use Rattle.rcu_runtime.proofs.Waiting.{drained_where, found}
use Rattle.rcu_runtime.proofs.drain.Whole+AllParts+Processor+J+Group+J+Hand+J.has_run.Goals as goal

pub returns-clause-shut : goal.returns-clause-shut
returns-clause-shut g c = still_shut c.args.barrier.now.counts c.args.self.now c.poll.new.self c.in-Ok.ensures.ok.continues.same c.requires

pub returns-clause-drained : goal.returns-clause-drained
returns-clause-drained g c = drained_where c.args.barrier.now.counts c.is_some.result c.args.self.now c.poll.new.self c.requires c.in-Ok.ensures.ok.continues.same
    (found c.args.barrier.now.counts c.in-Ok.passed c.is_some.result c.args.self.now c.poll.new.self c.is_some.ensures c.in-Ok.ensures.ok)

pub returns-clause-finds : goal.returns-clause-finds
returns-clause-finds g c = found c.args.barrier.now.counts c.in-Ok.passed c.is_some.result c.args.self.now c.poll.new.self c.is_some.ensures c.in-Ok.ensures.ok

pub unreachable-requires : goal.unreachable-requires
unreachable-requires g c = c.in_default.ensures.err.number c.requires.many

pub poll-requires-send-J : goal.poll-requires-send-J
poll-requires-send-J g c κs within = c.type_bounds.send-J

pub poll-requires-send-J-Receipt : goal.poll-requires-send-J-Receipt
poll-requires-send-J-Receipt g c κs within = c.type_bounds.send-J-Receipt

pub poll-requires-after_bounds : goal.poll-requires-after_bounds
poll-requires-after_bounds g c κs within = assumption
