use Rattle.std.proofs.Common.{rules}
use Rattle.rcu_part_threads.proofs.Zips.{started_more}
use Rattle.check_torture.proofs.actors.start_actors.Goals as goal

pub loop-processor-preserved : goal.loop-processor-preserved
loop-processor-preserved g c = let i = c.loop-processor.invariant in
    let more = started_more (λ thread. thread.promise.0.value) c.loop-processor.yielded c.loop-processor.processor-iterator.rest.items c.next.new.self.rest.items c.args.processors.items c.in-Some.processor c.loop-processor.threads.items c.push_reserved.new.self.items c.in-Some-start_actor.thread i.order c.in-Some.ensures.steps.0 c.push_reserved.ensures.items (search rules) i.started in record {
      order = more.0;
      room = search rules;
      started = more.1;
    }
