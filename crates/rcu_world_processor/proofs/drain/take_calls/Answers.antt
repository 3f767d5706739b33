use Rattle.std.proofs.Common.{◌≡◌, ◌∙◌, ◌++◌, map, true, false, ap, rules, arith}
use Rattle.rcu_world_law.specs.Calls.{Call}
use Rattle.rcu_world_law.specs.Lists.{is_nil}
use Rattle.rcu_world_law.specs.Places.{key_of}
use Rattle.rcu_world_processor.specs.Waits.{calls}
use Rattle.rcu_world_processor.proofs.Taking.{none_left, none_taken, one_less, one_taken}
use Rattle.rcu_world_processor.proofs.drain.take_calls.Goals as goal

pub loop-jobs-preserved : goal.loop-jobs-preserved
loop-jobs-preserved g c = let k = g.J.Job.key_of in
    let xs = calls k c.loop-jobs.left.items in
    let i = c.loop-jobs.invariant in
    let e : is_nil xs ≡ false = search rules in
    let l = one_less xs (calls k c.take_call.new.left.items) e c.take_call.ensures.rest in
    record {
      keys = ap (λ js. map k js ++ map key_of (calls k c.take_call.new.left.items)) c.push_reserved.ensures.items
          ∙ one_taken k c.loop-jobs.jobs.items c.take_call.result.job xs (calls k c.take_call.new.left.items) e (ap {A = Call} (λ x. x.key) c.take_call.ensures.first) c.take_call.ensures.rest ∙ i.keys;
      len = omega (arith, l, c.push_reserved.ensures.len, i.len);
      capacity = omega (arith, c.push_reserved.ensures.capacity, i.capacity);
    }

pub returns : goal.returns
returns g c = record {
  jobs = record {
    keys = (
        let e : is_nil (calls g.J.Job.key_of c.loop-jobs.left.items) ≡ true = search rules in none_taken g.J.Job.key_of c.loop-jobs.jobs.items (calls g.J.Job.key_of c.loop-jobs.left.items) _ e c.loop-jobs.invariant.keys
        );
    len = (
        let e : is_nil (calls g.J.Job.key_of c.loop-jobs.left.items) ≡ true = search rules in omega (arith, none_left (calls g.J.Job.key_of c.loop-jobs.left.items) e, c.loop-jobs.invariant.len)
        );
    capacity = search rules;
  };
}
