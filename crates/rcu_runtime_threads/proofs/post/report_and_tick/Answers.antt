use Rattle.rcu_runtime_threads.proofs.Steps.{works_twice}
use Rattle.rcu_runtime_threads.proofs.post.report_and_tick.Goals as goal

pub returns-then-counted-clause-works : goal.returns-then-counted-clause-works
returns-then-counted-clause-works g c = let r = c.quiescent.ensures in let t = c.tick-ticked.ensures in
    works_twice g.J.Job.key_of g.J.Job.gives c.args.processor.now c.quiescent.new.self c.tick-ticked.new.self r.same r.sound r.keeps.count t.same t.sound t.count

pub returns-then-counted-clause-turns : goal.returns-then-counted-clause-turns
returns-then-counted-clause-turns g c = let r = c.quiescent.ensures in let t = c.tick-ticked.ensures in record {
  between = c.quiescent.new.self;
  counted = c.quiescent.result;
  ticked = c.tick-ticked.result;
  reports = record { reports = r.reports; keeps = r.keeps };
  ticks = record { ticks = t.ticks; few = t.few; first = t.first; fresh = t.fresh; local = t.local; none = t.none };
}

pub returns-else-counted-clause-works : goal.returns-else-counted-clause-works
returns-else-counted-clause-works g c = let r = c.quiescent.ensures in let t = c.tick-ticked.ensures in
    works_twice g.J.Job.key_of g.J.Job.gives c.args.processor.now c.quiescent.new.self c.tick-ticked.new.self r.same r.sound r.keeps.count t.same t.sound t.count

pub returns-else-counted-clause-turns : goal.returns-else-counted-clause-turns
returns-else-counted-clause-turns g c = let r = c.quiescent.ensures in let t = c.tick-ticked.ensures in record {
  between = c.quiescent.new.self;
  counted = c.quiescent.result;
  ticked = c.tick-ticked.result;
  reports = record { reports = r.reports; keeps = r.keeps };
  ticks = record { ticks = t.ticks; few = t.few; first = t.first; fresh = t.fresh; local = t.local; none = t.none };
}

pub quiescent-requires-send-J : goal.quiescent-requires-send-J
quiescent-requires-send-J g c κs within = c.type_bounds.send-J

pub quiescent-requires-send-J-Receipt : goal.quiescent-requires-send-J-Receipt
quiescent-requires-send-J-Receipt g c κs within = c.type_bounds.send-J-Receipt

pub quiescent-requires-after_bounds : goal.quiescent-requires-after_bounds
quiescent-requires-after_bounds g c κs within = assumption

pub tick-ticked-requires-send-J : goal.tick-ticked-requires-send-J
tick-ticked-requires-send-J g c κs within = c.type_bounds.send-J

pub tick-ticked-requires-send-J-Receipt : goal.tick-ticked-requires-send-J-Receipt
tick-ticked-requires-send-J-Receipt g c κs within = c.type_bounds.send-J-Receipt

pub tick-ticked-requires-after_bounds : goal.tick-ticked-requires-after_bounds
tick-ticked-requires-after_bounds g c κs within = assumption
