use Rattle.std.proofs.Common.{◌∷◌, [], ◌∙◌, append-nil, length, length-append, refl, sym, ap, arith}
use Rattle.rcu_part_close.proofs.Endings.{next_taken}
use Rattle.rcu_part_close.proofs.taken.take_list.Goals as goal

pub loop-callback-init : goal.loop-callback-init
loop-callback-init g c = record { jobs = sym (append-nil c.args.jobs.now.items); len = omega arith; all = omega (arith, ap (λ l. length l.items) c.into_iter-callback-iterator.ensures.into_iter_gives.0); room = refl }

pub push_reserved-requires : goal.push_reserved-requires
push_reserved-requires g c = let i = c.loop-callback.invariant in omega (arith, i.len, i.all, i.room, c.requires, ap length c.in-Some.ensures.steps.0)

pub loop-callback-preserved : goal.loop-callback-preserved
loop-callback-preserved g c =
    let i = c.loop-callback.invariant in
    let p = c.push_reserved.ensures in
    let n = length-append c.loop-callback.yielded (c.in-Some.callback ∷ []) in
    record {
      jobs = next_taken c.in-Some.callback c.loop-callback.yielded c.args.jobs.now c.loop-callback.jobs c.push_reserved.new.self p.items i.jobs;
      len = omega (arith, i.len, p.len, n);
      all = omega (arith, i.all, n, ap length c.in-Some.ensures.steps.0);
      room = p.capacity ∙ i.room;
    }
