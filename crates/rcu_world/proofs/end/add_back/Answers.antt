use Rattle.std.proofs.Common.{◌≤◌, ◌++◌, ◌∙◌, length, map, vec_capacity, ap, subst, sym}
use Rattle.std.proofs.lemmas.List.{append-nil, take_all}
use Rattle.rcu_world_law.specs.declared.marks.Mark.TheVariants.{Back}
use Rattle.rcu_world.proofs.Leaving.{backs_taken}
use Rattle.rcu_world.proofs.Places.{all_added, as_much, none_added, one_added, room_for_next, steps_on}
use Rattle.rcu_world.proofs.end.add_back.Goals as goal

pub offset_bounds-job-items-job-index : goal.offset_bounds-job-items-job-index
offset_bounds-job-items-job-index g c = c.loop-job.auto.job-index-end

pub bounds-job-items-job-index : goal.bounds-job-items-job-index
bounds-job-items-job-index g c = c.loop-job-test.true

pub push_reserved-requires : goal.push_reserved-requires
push_reserved-requires g c = room_for_next _ _ _ _ _ _ _ c.loop-job.invariant.len c.loop-job-test.true c.deref-job-items.ensures.len c.requires.room c.loop-job.invariant.capacity

pub loop-job-smaller : goal.loop-job-smaller
loop-job-smaller g c = steps_on _ _ c.loop-job-test.true

pub returns-clause-capacity : goal.returns-clause-capacity
returns-clause-capacity g c = c.loop-job.invariant.capacity

pub loop-job-init : goal.loop-job-init
loop-job-init g c = record { marks = sym (append-nil c.args.marks.now.items); len = none_added _; capacity = as_much _ }

pub loop-job-preserved : goal.loop-job-preserved
loop-job-preserved g c = record {
  marks = backs_taken g.J.Job.key_of c.args.cpu c.loop-job.job-index _ _ _ c.job-item.result _ _ _ c.deref-job-items.ensures.value c.loop-job-test.true c.job-item.is c.key.ensures c.loop-job.invariant.marks c.push_reserved.ensures.items;
  len = one_added _ _ _ _ c.push_reserved.ensures.len c.loop-job.invariant.len;
  capacity = subst (λ n. vec_capacity c.args.marks.now ≤ n) (sym c.push_reserved.ensures.capacity) c.loop-job.invariant.capacity;
}

pub returns-clause-marks : goal.returns-clause-marks
returns-clause-marks g c = c.loop-job.invariant.marks
    ∙ ap (λ js. c.args.marks.now.items ++ map (λ key. Back c.args.cpu key) (map g.J.Job.key_of js)) (take_all c.loop-job.job-index c.args.jobs.now.items (subst (λ js. length js ≤ c.loop-job.job-index) c.deref-job-items.ensures.value c.loop-job-test.false))

pub returns-clause-len : goal.returns-clause-len
returns-clause-len g c = all_added _ _ _ _ _ c.loop-job.invariant.len c.loop-job.auto.job-index-end c.loop-job-test.false c.deref-job-items.ensures.len
