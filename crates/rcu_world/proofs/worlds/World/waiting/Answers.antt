use Rattle.std.proofs.Common.{◌∙◌, ◌<◌, ◌≡◌, ap, arith, sym, subst, length}
use Rattle.std.proofs.lemmas.List.{length-map}
use Rattle.rcu_world_law.specs.States.{Cpu, cpu_at}
use Rattle.rcu_world_processor.specs.Views.{seen}
use Rattle.rcu_world.specs.Views.{state}
use Rattle.rcu_world.specs.GroupTurns.{waiting_upto}
use Rattle.rcu_world.proofs.Drawing.{few_drawn, waits_more, waits_none, waits_other}
use Rattle.rcu_world.proofs.Leading.{seen_there}
use denote.Param.{param}
use Rattle.rcu_world.proofs.Fitting.{fits_there}
use Rattle.rcu_world.proofs.Places.{steps_on}
use Rattle.rcu_world.proofs.worlds.World.waiting.Goals as goal

pub drawn_len-drawn-requires-send-J : goal.drawn_len-drawn-requires-send-J
drawn_len-drawn-requires-send-J g c κs within = c.type_bounds.send-J

pub drawn_len-drawn-requires-send-J-Receipt : goal.drawn_len-drawn-requires-send-J-Receipt
drawn_len-drawn-requires-send-J-Receipt g c κs within = c.type_bounds.send-J-Receipt

pub drawn_len-drawn-requires-after_bounds : goal.drawn_len-drawn-requires-after_bounds
drawn_len-drawn-requires-after_bounds g c κs within = fits_there (param 0 g.row.J) (param 1 g.row.J-Receipt) assumption

pub out_len-out-requires-send-J : goal.out_len-out-requires-send-J
out_len-out-requires-send-J g c κs within = c.type_bounds.send-J

pub out_len-out-requires-send-J-Receipt : goal.out_len-out-requires-send-J-Receipt
out_len-out-requires-send-J-Receipt g c κs within = c.type_bounds.send-J-Receipt

pub out_len-out-requires-after_bounds : goal.out_len-out-requires-after_bounds
out_len-out-requires-after_bounds g c κs within = fits_there (param 0 g.row.J) (param 1 g.row.J-Receipt) assumption

pub loop-cpu-init : goal.loop-cpu-init
loop-cpu-init g c = record { sum = waits_none c.args.group (state g.J.Job.key_of c.args.self.now.core); most = omega arith }

pub loop-cpu-preserved-then-not-is_member : goal.loop-cpu-preserved-then-not-is_member
loop-cpu-preserved-then-not-is_member g c =
    let i = c.loop-cpu.invariant in
    record { sum = waits_other c.args.group c.loop-cpu.cpu _ (state g.J.Job.key_of c.args.self.now.core) (sym c.is_member.ensures ∙ c.if-not-is_member.true) i.sum; most = omega (arith, i.most) }

pub overflow_add-waiting : goal.overflow_add-waiting
overflow_add-waiting g c =
    let w = state g.J.Job.key_of c.args.self.now.core in
    let l : c.loop-cpu.cpu < length c.args.self.now.core.processors.items = subst (λ n. c.loop-cpu.cpu < n) (c.len-cpu-end.ensures ∙ c.args.self.now.core.processors.ok.0) c.loop-cpu-test.true in
    let s : seen g.J.Job.key_of c.index-p.result.now ≡ cpu_at w c.loop-cpu.cpu = seen_there g.J.Job.key_of c.args.self.now.core c.loop-cpu.cpu c.index-p.result.now l c.index-p.ensures in
    let f = few_drawn w c.loop-cpu.cpu c.requires.fit (subst (λ n. c.loop-cpu.cpu < n) (sym (length-map c.args.self.now.core.processors.items (seen g.J.Job.key_of))) l) in
    omega (arith, c.loop-cpu.invariant.most, f, c.drawn_len-drawn.ensures ∙ ap {A = Cpu} (λ x. length x.drawn) s, c.out_len-out.ensures ∙ ap {A = Cpu} (λ x. length x.out) s, c.requires.fit.few, length-map c.args.self.now.core.processors.items (seen g.J.Job.key_of))

pub overflow_add-waiting-in-loop-cpu : goal.overflow_add-waiting-in-loop-cpu
overflow_add-waiting-in-loop-cpu g c =
    let w = state g.J.Job.key_of c.args.self.now.core in
    let l : c.loop-cpu.cpu < length c.args.self.now.core.processors.items = subst (λ n. c.loop-cpu.cpu < n) (c.len-cpu-end.ensures ∙ c.args.self.now.core.processors.ok.0) c.loop-cpu-test.true in
    let s : seen g.J.Job.key_of c.index-p.result.now ≡ cpu_at w c.loop-cpu.cpu = seen_there g.J.Job.key_of c.args.self.now.core c.loop-cpu.cpu c.index-p.result.now l c.index-p.ensures in
    let f = few_drawn w c.loop-cpu.cpu c.requires.fit (subst (λ n. c.loop-cpu.cpu < n) (sym (length-map c.args.self.now.core.processors.items (seen g.J.Job.key_of))) l) in
    omega (arith, c.loop-cpu.invariant.most, f, c.drawn_len-drawn.ensures ∙ ap {A = Cpu} (λ x. length x.drawn) s, c.out_len-out.ensures ∙ ap {A = Cpu} (λ x. length x.out) s, c.requires.fit.few, length-map c.args.self.now.core.processors.items (seen g.J.Job.key_of))

pub loop-cpu-preserved : goal.loop-cpu-preserved
loop-cpu-preserved g c =
    let i = c.loop-cpu.invariant in
    let w = state g.J.Job.key_of c.args.self.now.core in
    let l : c.loop-cpu.cpu < length c.args.self.now.core.processors.items = subst (λ n. c.loop-cpu.cpu < n) (c.len-cpu-end.ensures ∙ c.args.self.now.core.processors.ok.0) c.loop-cpu-test.true in
    let s : seen g.J.Job.key_of c.index-p.result.now ≡ cpu_at w c.loop-cpu.cpu = seen_there g.J.Job.key_of c.args.self.now.core c.loop-cpu.cpu c.index-p.result.now l c.index-p.ensures in
    let f = few_drawn w c.loop-cpu.cpu c.requires.fit (subst (λ n. c.loop-cpu.cpu < n) (sym (length-map c.args.self.now.core.processors.items (seen g.J.Job.key_of))) l) in
    let d = c.drawn_len-drawn.ensures ∙ ap {A = Cpu} (λ x. length x.drawn) s in
    let o = c.out_len-out.ensures ∙ ap {A = Cpu} (λ x. length x.out) s in
    record {
      sum = waits_more c.args.group c.loop-cpu.cpu _ _ _ w (sym c.is_member.ensures ∙ c.if-not-is_member.false) i.sum d o;
      most = omega (arith, i.most, f, d, o);
    }

pub returns : goal.returns
returns g c =
    let n : c.loop-cpu.cpu ≡ length (state g.J.Job.key_of c.args.self.now.core).cpus = omega (arith, length-map c.args.self.now.core.processors.items (seen g.J.Job.key_of)) in
    c.loop-cpu.invariant.sum ∙ ap (λ n. waiting_upto c.args.group n (state g.J.Job.key_of c.args.self.now.core)) n

pub loop-cpu-smaller-then-not-is_member : goal.loop-cpu-smaller-then-not-is_member
loop-cpu-smaller-then-not-is_member g c = steps_on _ _ c.loop-cpu-test.true

pub index-p-requires : goal.index-p-requires
index-p-requires g c = subst (λ n. c.loop-cpu.cpu < n) c.len-cpu-end.ensures c.loop-cpu-test.true

pub loop-cpu-smaller : goal.loop-cpu-smaller
loop-cpu-smaller g c = steps_on _ _ c.loop-cpu-test.true

pub is_member-requires-send-J : goal.is_member-requires-send-J
is_member-requires-send-J g c κs within = c.type_bounds.send-J

pub is_member-requires-send-J-Receipt : goal.is_member-requires-send-J-Receipt
is_member-requires-send-J-Receipt g c κs within = c.type_bounds.send-J-Receipt

pub is_member-requires-after_bounds : goal.is_member-requires-after_bounds
is_member-requires-after_bounds g c κs within = (assumption, (c.requires, subst (λ n. c.loop-cpu.cpu < n) (c.len-cpu-end.ensures ∙ c.args.self.now.core.processors.ok.0 ∙ sym (length-map c.args.self.now.core.processors.items (seen g.J.Job.key_of))) c.loop-cpu-test.true))
