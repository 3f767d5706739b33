use Rattle.std.proofs.Common.{rules, ◌≡◌, ◌∙◌, ◌++◌, map, true, false, ap, arith, sym, length}
use Rattle.rcu_world_law.specs.Calls.{Call}
use Rattle.rcu_world_law.specs.Lists.{is_nil}
use Rattle.rcu_world_law.specs.Places.{key_of}
use Rattle.rcu_world_processor.specs.Batches.{batch}
use Rattle.rcu_world_processor.proofs.Taking.{none_left, none_taken, one_less, one_taken, one_shorter, room_left}
use Rattle.rcu_world_processor.proofs.drain.take_jobs.Goals as goal

pub loop-jobs-preserved : goal.loop-jobs-preserved
loop-jobs-preserved g c = let k = g.J.Job.key_of in
    let xs = batch k c.loop-jobs.left in
    let i = c.loop-jobs.invariant in
    let e : is_nil xs ≡ false = sym c.is_spent.ensures ∙ c.loop-jobs-test.true in
    let l = one_less xs (batch k c.take_first.new.some) e c.take_first.ensures.rest in
    record {
      keys = ap (λ js. map k js ++ map key_of (batch k c.take_first.new.some)) c.push_reserved.ensures.items
          ∙ one_taken k c.loop-jobs.jobs.items c.take_first.result.job xs (batch k c.take_first.new.some) e (ap {A = Call} (λ x. x.key) c.take_first.ensures.first) c.take_first.ensures.rest ∙ i.keys;
      len = omega (arith, l, c.push_reserved.ensures.len, i.len);
      capacity = omega (arith, c.push_reserved.ensures.capacity, i.capacity);
    }

pub returns : goal.returns
returns g c = record {
  jobs = record {
    keys = (
        let e : is_nil (batch g.J.Job.key_of c.loop-jobs.left) ≡ true = sym c.is_spent.ensures ∙ c.loop-jobs-test.false in none_taken g.J.Job.key_of c.loop-jobs.jobs.items (batch g.J.Job.key_of c.loop-jobs.left) _ e c.loop-jobs.invariant.keys
        );
    len = (
        let e : is_nil (batch g.J.Job.key_of c.loop-jobs.left) ≡ true = sym c.is_spent.ensures ∙ c.loop-jobs-test.false in omega (arith, none_left (batch g.J.Job.key_of c.loop-jobs.left) e, c.loop-jobs.invariant.len)
        );
    capacity = search rules;
  };
}

pub push_reserved-requires : goal.push_reserved-requires
push_reserved-requires g c = let xs = batch g.J.Job.key_of c.loop-jobs.left in
    let l = one_less xs (batch g.J.Job.key_of c.take_first.new.some) (sym c.is_spent.ensures ∙ c.loop-jobs-test.true) c.take_first.ensures.rest in
    room_left _ (length xs) _ _ _ _ _ l c.loop-jobs.invariant.len c.requires c.loop-jobs.invariant.capacity

pub loop-jobs-smaller : goal.loop-jobs-smaller
loop-jobs-smaller g c = let k = g.J.Job.key_of in one_shorter (batch k c.loop-jobs.left) (batch k c.take_first.new.some) (sym c.is_spent.ensures ∙ c.loop-jobs-test.true) c.take_first.ensures.rest
