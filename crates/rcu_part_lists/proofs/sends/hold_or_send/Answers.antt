use Rattle.std.proofs.Common.{◌++◌, refl, sym, subst, ◌∙◌, ◌≡◌}
use Rattle.std.specs.Mem.{FitsInMemory}
use denote.Param.{param}
use Rattle.std.proofs.lemmas.List.Elements.{All-push}
use Rattle.rcu_lists.specs.Bypasses.{bypass_items}
use Rattle.rcu_lists.specs.contracts.bypass.Bypass as bypass_row
use Rattle.rcu_part_lists.specs.Lanes.{put_calls}
use Rattle.rcu_part_lists.specs.Outgoing.{outgoing, kept, IsReleased, is_due_with}
use Rattle.rcu_part_lists.specs.Limits.{AreFew, AreSafe, IsSafe}
use Rattle.rcu_part_lists.proofs.Releases.{same_outgoing, other}
use Rattle.rcu_part_lists.proofs.sends.hold_or_send.Goals as goal

pub send-requires : goal.send-requires
send-requires g c =
    let h : FitsInMemory (bypass_row.the_row (param 0 g.row.J)) = assumption in
    let x = subst AreSafe (sym c.hold.ensures.items) (All-push IsSafe (bypass_items c.args.bypass.now) c.args.callback c.requires.safe c.requires.one) in
    (h, (x, subst (λ l. AreFew (put_calls c.args.outlet.now.rear ++ l)) (sym c.hold.ensures.items) c.requires.few))

pub returns-then-hold-clause-releases : goal.returns-then-hold-clause-releases
returns-then-hold-clause-releases g c = λ _.
    let o = outgoing c.args.outlet.now.rear c.args.bypass.now in
    subst (λ m. IsReleased m (outgoing c.send.new.outlet.rear c.send.new.bypass))
    (same_outgoing (kept c.args.moment c.args.kind c.args.callback o) (outgoing c.args.outlet.now.rear c.hold.new.self) refl refl c.hold.ensures.items c.hold.ensures.pace c.hold.ensures.qhimark)
    c.send.ensures.released

pub returns-else-hold-clause-safe : goal.returns-else-hold-clause-safe
returns-else-hold-clause-safe g c = subst AreSafe (sym c.hold.ensures.items) (All-push IsSafe (bypass_items c.args.bypass.now) c.args.callback c.requires.safe c.requires.one)

pub hold-requires : goal.hold-requires
hold-requires g c = (assumption, c.requires.room)

pub returns-then-hold-clause-safe : goal.returns-then-hold-clause-safe
returns-then-hold-clause-safe g c = c.send.ensures.safe

pub returns-then-hold-clause-waits : goal.returns-then-hold-clause-waits
returns-then-hold-clause-waits g c = let o = outgoing c.args.outlet.now.rear c.args.bypass.now in
    λ e. absurd {A = outgoing c.send.new.outlet.rear c.send.new.bypass ≡ kept c.args.moment c.args.kind c.args.callback o} (other (is_due_with c.args.moment c.args.kind o) (sym c.hold.ensures.due ∙ c.if-hold.true) e)

pub returns-else-hold-clause-releases : goal.returns-else-hold-clause-releases
returns-else-hold-clause-releases g c = let o = outgoing c.args.outlet.now.rear c.args.bypass.now in
    λ e. absurd {A = IsReleased (kept c.args.moment c.args.kind c.args.callback o) (outgoing c.args.outlet.now.rear c.hold.new.self)} (other (is_due_with c.args.moment c.args.kind o) e (sym c.hold.ensures.due ∙ c.if-hold.false))

pub returns-else-hold-clause-waits : goal.returns-else-hold-clause-waits
returns-else-hold-clause-waits g c = λ _. same_outgoing (kept c.args.moment c.args.kind c.args.callback (outgoing c.args.outlet.now.rear c.args.bypass.now)) (outgoing c.args.outlet.now.rear c.hold.new.self) refl refl c.hold.ensures.items c.hold.ensures.pace c.hold.ensures.qhimark
