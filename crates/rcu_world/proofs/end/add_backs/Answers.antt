use Rattle.std.proofs.Common.{◌∙◌, ◌++◌, ap, arith, map, drop, length, ◌<◌, ◌≤◌, refl, subst, sym, append_assoc, ◌+◌}
use Rattle.rcu_world.specs.Leaving.{backs}
use Rattle.rcu_world.proofs.Leaving.{back_room, backs_end, backs_more, backs_room}
use Rattle.rcu_world.proofs.end.add_backs.Goals as goal

pub loop-cpu-preserved : goal.loop-cpu-preserved
loop-cpu-preserved g c =
    let l : c.loop-cpu.cpu < length c.args.back.now.items = omega arith in
    record {
      all = c.loop-cpu.invariant.all ∙ ap (λ x. c.loop-cpu.marks.items ++ x) (backs_more g.J.Job.key_of c.args.back.now.items c.loop-cpu.cpu c.index.result.now l c.index.ensures)
          ∙ sym (append_assoc c.loop-cpu.marks.items _ _)
          ∙ ap (λ x. x ++ backs (c.loop-cpu.cpu + 1) (map (λ v. map g.J.Job.key_of v.items) (drop (c.loop-cpu.cpu + 1) c.args.back.now.items))) (sym c.add_back.ensures.marks);
      room = backs_room g.J.Job.key_of c.args.back.now.items c.loop-cpu.cpu c.index.result.now _ _ _ _ l c.index.ensures c.add_back.ensures.len c.add_back.ensures.capacity c.loop-cpu.invariant.room;
    }

pub loop-cpu-init : goal.loop-cpu-init
loop-cpu-init g c = record { all = refl; room = c.requires.room }

pub index-requires : goal.index-requires
index-requires g c = subst (λ n. c.loop-cpu.cpu < n) c.len-cpu-end.ensures c.loop-cpu-test.true

pub add_back-requires-clause-room : goal.add_back-requires-clause-room
add_back-requires-clause-room g c κs within =
    back_room g.J.Job.key_of c.args.back.now.items c.loop-cpu.cpu c.index.result.now _ _ (subst (λ n. c.loop-cpu.cpu < n) (c.len-cpu-end.ensures ∙ c.args.back.now.ok.0) c.loop-cpu-test.true) c.index.ensures c.loop-cpu.invariant.room

pub returns : goal.returns
returns g c = backs_end g.J.Job.key_of c.args.back.now.items c.loop-cpu.cpu c.loop-cpu.marks.items _ (subst (λ n. n ≤ c.loop-cpu.cpu) (c.len-cpu-end.ensures ∙ c.args.back.now.ok.0) c.loop-cpu-test.false) c.loop-cpu.invariant.all
