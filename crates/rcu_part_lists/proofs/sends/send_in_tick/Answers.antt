use Rattle.std.proofs.Common.{◌++◌, ◌≡◌, ◌∙◌, refl, sym, subst}
use Rattle.std.specs.Mem.{FitsInMemory}
use denote.Param.{param}
use Rattle.rcu_lists.specs.Bypasses.{bypass_items}
use Rattle.rcu_lists.specs.contracts.bypass.Bypass as bypass_row
use Rattle.rcu_part_lists.specs.Lanes.{put_calls}
use Rattle.rcu_part_lists.specs.Outgoing.{outgoing, IsReleased, is_due_in_tick, in_tick}
use Rattle.rcu_part_lists.specs.Limits.{AreFew, AreSafe}
use Rattle.rcu_part_lists.proofs.Holdings.{not-due}
use Rattle.rcu_part_lists.proofs.Releases.{same_outgoing, some-in, other, called-due, not-called}
use Rattle.rcu_part_lists.proofs.sends.send_in_tick.Goals as goal

pub send-requires : goal.send-requires
send-requires g c =
    let h : FitsInMemory (bypass_row.the_row (param 0 g.row.J)) = assumption in
    (h, (subst AreSafe (sym c.late-late.ensures.items) c.requires.safe, subst (λ l. AreFew (put_calls c.args.outlet.now.rear ++ l)) (sym c.late-late.ensures.items) c.requires.few))

pub returns-then-is_called-clause-stays : goal.returns-then-is_called-clause-stays
returns-then-is_called-clause-stays g c =
    let o = outgoing c.args.outlet.now.rear c.args.bypass.now in
    let d = called-due c.args.moment c.late-late.result c.args.leaving c.args.urged c.is_called.result o (some-in c.is_empty.result (bypass_items c.args.bypass.now) c.is_empty.ensures c.if-is_empty.false) c.late-late.ensures.late c.is_called.ensures in
    λ e. absurd {A = outgoing c.send.new.outlet.rear c.send.new.bypass ≡ o} (other (is_due_in_tick c.args.moment c.args.leaving c.args.urged o) (d ∙ c.if-is_called.true) e)

pub returns-then-is_called-clause-releases : goal.returns-then-is_called-clause-releases
returns-then-is_called-clause-releases g c = λ _.
    let o = outgoing c.args.outlet.now.rear c.args.bypass.now in
    subst (λ m. IsReleased m (outgoing c.send.new.outlet.rear c.send.new.bypass))
    (same_outgoing (in_tick c.args.moment o) (outgoing c.args.outlet.now.rear c.late-late.new.self) refl refl c.late-late.ensures.items c.late-late.ensures.pace c.late-late.ensures.qhimark) c.send.ensures.released

pub returns-else-is_called-clause-stays : goal.returns-else-is_called-clause-stays
returns-else-is_called-clause-stays g c = λ _.
    not-called c.args.moment c.late-late.result c.args.leaving c.args.urged c.is_called.result (outgoing c.args.outlet.now.rear c.args.bypass.now) (outgoing c.args.outlet.now.rear c.late-late.new.self)
    c.late-late.ensures.late c.is_called.ensures c.if-is_called.false refl refl c.late-late.ensures.items c.late-late.ensures.pace c.late-late.ensures.qhimark

pub returns-else-is_called-clause-releases : goal.returns-else-is_called-clause-releases
returns-else-is_called-clause-releases g c =
    let o = outgoing c.args.outlet.now.rear c.args.bypass.now in
    let d = called-due c.args.moment c.late-late.result c.args.leaving c.args.urged c.is_called.result o (some-in c.is_empty.result (bypass_items c.args.bypass.now) c.is_empty.ensures c.if-is_empty.false) c.late-late.ensures.late c.is_called.ensures in
    λ e. absurd {A = IsReleased (in_tick c.args.moment o) (outgoing c.args.outlet.now.rear c.late-late.new.self)} (other (is_due_in_tick c.args.moment c.args.leaving c.args.urged o) e (d ∙ c.if-is_called.false))

pub returns-else-is_called-clause-safe : goal.returns-else-is_called-clause-safe
returns-else-is_called-clause-safe g c = subst AreSafe (sym c.late-late.ensures.items) c.requires.safe

pub is_empty-requires : goal.is_empty-requires
is_empty-requires g c = assumption

pub late-late-requires : goal.late-late-requires
late-late-requires g c = assumption

pub returns-then-is_empty-clause-releases : goal.returns-then-is_empty-clause-releases
returns-then-is_empty-clause-releases g c =
    let o = outgoing c.args.outlet.now.rear c.args.bypass.now in
    let idle = not-due c.args.moment c.args.leaving c.args.urged o (c.is_empty.ensures.0 c.if-is_empty.true) in
    λ e. absurd {A = IsReleased (in_tick c.args.moment o) o} (other (is_due_in_tick c.args.moment c.args.leaving c.args.urged o) e idle)

pub returns-then-is_empty-clause-safe : goal.returns-then-is_empty-clause-safe
returns-then-is_empty-clause-safe g c = c.requires.safe

pub returns-then-is_called-clause-safe : goal.returns-then-is_called-clause-safe
returns-then-is_called-clause-safe g c = c.send.ensures.safe

pub returns-then-is_empty-clause-lane : goal.returns-then-is_empty-clause-lane
returns-then-is_empty-clause-lane g c = refl

pub returns-then-is_empty-clause-stays : goal.returns-then-is_empty-clause-stays
returns-then-is_empty-clause-stays g c = λ _. refl

pub returns-then-is_called-clause-lane : goal.returns-then-is_called-clause-lane
returns-then-is_called-clause-lane g c = c.send.ensures.lane

pub returns-else-is_called-clause-lane : goal.returns-else-is_called-clause-lane
returns-else-is_called-clause-lane g c = refl
