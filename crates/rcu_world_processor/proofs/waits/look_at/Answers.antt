use Rattle.std.proofs.Common.{◌≡◌, ◌≤◌, ◌∙◌, ap, sym, subst, cond, Some, None, arith}
use Rattle.rcu_world_law.specs.LabelledLists.{MayAccelerate, advance, newest, wanted_by_look}
use Rattle.rcu_numbers.specs.Numbers.{snap_of}
use Rattle.rcu_lists.specs.Segments.{labelled}
use Rattle.rcu_lists.proofs.Counts.{well-formed}
use Rattle.rcu_world_processor.specs.Waits.{waits, waiting}
use Rattle.rcu_world_processor.proofs.Waiting.{advance_as, may_as, look_steps}
use Rattle.rcu_world_processor.proofs.waits.look_at.Goals as goal

pub snap-aim-requires : goal.snap-aim-requires
snap-aim-requires g c =
    let e = ap (waits g.J.Job.key_of) c.advance.ensures.list ∙ advance_as g.J.Job.key_of c.args.number (labelled c.args.list.now) in
    let small : c.newest_in.result ≤ 2147483644 = subst (λ n. n ≤ 2147483644) (sym (c.newest_in.ensures ∙ ap (newest c.args.number) e)) c.requires.small in
    omega (arith, small)

pub accelerate-requires : goal.accelerate-requires
accelerate-requires g c =
    let ws = waiting g.J.Job.key_of c.args.list.now in
    let e : waiting g.J.Job.key_of c.advance.new.self ≡ advance c.args.number ws = ap (waits g.J.Job.key_of) c.advance.ensures.list ∙ advance_as g.J.Job.key_of c.args.number (labelled c.args.list.now) in
    let a : c.snap-aim.result ≡ snap_of (newest c.args.number (advance c.args.number ws)) = c.snap-aim.ensures.value ∙ ap snap_of (c.newest_in.ensures ∙ ap (newest c.args.number) e) in
    may_as g.J.Job.key_of c.snap-aim.result (labelled c.advance.new.self)
    (subst (MayAccelerate c.snap-aim.result) (sym e) (subst (λ z. MayAccelerate z (advance c.args.number ws)) (sym a) c.requires.may))

pub returns-then-accelerate : goal.returns-then-accelerate
returns-then-accelerate g c =
    let s = c.advance.new.self in
    let l = look_steps g.J.Job.key_of c.args.number c.snap-aim.result c.newest_in.result (labelled c.args.list.now) (labelled s) (labelled c.accelerate.new.self) c.accelerate.result
    (let b = s.bounds in well-formed b.wait_number b.ready_number b.done b.wait b.ready s.list.items s.within (λ e. (b.filled e).0) b.rising)
    c.advance.ensures.list c.newest_in.ensures c.snap-aim.ensures.value c.accelerate.ensures.list c.accelerate.ensures.carried in
    record { list = l.0; asks = subst (λ b. cond b (Some c.snap-aim.result) None ≡ wanted_by_look c.args.number (waiting g.J.Job.key_of c.args.list.now)) c.if-accelerate.true l.1 }

pub returns-else-accelerate : goal.returns-else-accelerate
returns-else-accelerate g c =
    let s = c.advance.new.self in
    let l = look_steps g.J.Job.key_of c.args.number c.snap-aim.result c.newest_in.result (labelled c.args.list.now) (labelled s) (labelled c.accelerate.new.self) c.accelerate.result
    (let b = s.bounds in well-formed b.wait_number b.ready_number b.done b.wait b.ready s.list.items s.within (λ e. (b.filled e).0) b.rising)
    c.advance.ensures.list c.newest_in.ensures c.snap-aim.ensures.value c.accelerate.ensures.list c.accelerate.ensures.carried in
    record { list = l.0; asks = subst (λ b. cond b (Some c.snap-aim.result) None ≡ wanted_by_look c.args.number (waiting g.J.Job.key_of c.args.list.now)) c.if-accelerate.false l.1 }
