use Rattle.std.proofs.Common.{arith, ap, sym, ◌∙◌, ◌++◌, ◌<◌, length, refl, subst, vec_len, vec_capacity}
use Rattle.rcu_world.proofs.Ends.{shuts_end, shuts_step, open_mark, no_mark}
use Rattle.rcu_world.proofs.Places.{as_much, least_none, most_added, room_for_least}
use Rattle.std.proofs.lemmas.List.{append-nil}
use Rattle.std.specs.Global.{Vec}
use Rattle.rcu_world_law.specs.declared.marks.Mark.{Mark}
use Rattle.rcu_world.proofs.end.add_shuts.Goals as goal
use Rattle.rcu_world.proofs.end.add_shuts.Goals.{then-is_open, else-is_open}

pub loop-cpu-preserved : goal.loop-cpu-preserved
loop-cpu-preserved g c =
    let l : c.loop-cpu.cpu < length c.args.processors.now.items = omega arith in
    let step = shuts_step g.J.Job.key_of c.args.processors.now.items c.loop-cpu.cpu c.index.result.now c.loop-cpu.marks.items in
    elim c.if-is_open.branch [
      | then-is_open w ↦ record {
        all = step _ _ l c.index.ensures (ap (λ (v : Vec Mark). v.items) w.marks-is ∙ w.push_reserved.ensures.items ∙ ap (λ x. c.loop-cpu.marks.items ++ x) (sym (open_mark c.loop-cpu.cpu c.index.result.now.shut (sym c.is_open.ensures ∙ w.if-is_open.true)))) c.loop-cpu.invariant.all;
        len = omega (arith, ap (λ (v : Vec Mark). vec_len v) w.marks-is, w.push_reserved.ensures.len, c.loop-cpu.invariant.len);
        capacity = omega (arith, ap (λ (v : Vec Mark). vec_capacity v) w.marks-is, w.push_reserved.ensures.capacity, c.loop-cpu.invariant.capacity);
      }
      | else-is_open w ↦ record {
        all = step _ _ l c.index.ensures (ap (λ (v : Vec Mark). v.items) w.marks-is ∙ sym (append-nil c.loop-cpu.marks.items) ∙ ap (λ x. c.loop-cpu.marks.items ++ x) (sym (no_mark c.loop-cpu.cpu c.index.result.now.shut (sym c.is_open.ensures ∙ w.if-is_open.false)))) c.loop-cpu.invariant.all;
        len = omega (arith, ap (λ (v : Vec Mark). vec_len v) w.marks-is, c.loop-cpu.invariant.len);
        capacity = omega (arith, ap (λ (v : Vec Mark). vec_capacity v) w.marks-is, c.loop-cpu.invariant.capacity);
      }
    ]

pub returns-clause-marks : goal.returns-clause-marks
returns-clause-marks g c = shuts_end g.J.Job.key_of c.args.processors.now.items c.loop-cpu.cpu c.loop-cpu.marks.items _ (omega arith) c.loop-cpu.invariant.all

pub loop-cpu-init : goal.loop-cpu-init
loop-cpu-init g c = record { all = refl; len = least_none _; capacity = as_much _ }

pub index-requires : goal.index-requires
index-requires g c = subst (λ n. c.loop-cpu.cpu < n) c.len-cpu-end.ensures c.loop-cpu-test.true

pub push_reserved-requires : goal.push_reserved-requires
push_reserved-requires g c = room_for_least _ _ _ _ _ _ _ c.loop-cpu.invariant.len c.loop-cpu-test.true c.len-cpu-end.ensures c.requires.room c.loop-cpu.invariant.capacity

pub returns-clause-len : goal.returns-clause-len
returns-clause-len g c = most_added _ _ _ _ _ c.loop-cpu.invariant.len c.loop-cpu.auto.cpu-end c.len-cpu-end.ensures

pub is_open-requires-send-J : goal.is_open-requires-send-J
is_open-requires-send-J g c κs within = c.type_bounds.send-J

pub is_open-requires-send-J-Receipt : goal.is_open-requires-send-J-Receipt
is_open-requires-send-J-Receipt g c κs within = c.type_bounds.send-J-Receipt

pub is_open-requires-after_bounds : goal.is_open-requires-after_bounds
is_open-requires-after_bounds g c κs within = assumption
