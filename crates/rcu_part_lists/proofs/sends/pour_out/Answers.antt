use Rattle.std.proofs.Common.{◌++◌, arith, sym, subst, true≢false, refl}
use Rattle.std.specs.Mem.{FitsInMemory}
use denote.Param.{param}
use Rattle.std.proofs.lemmas.List.Elements.{All-append}
use Rattle.rcu_lists.specs.Bypasses.{bypass_items}
use Rattle.rcu_lists.specs.Labels.{callbacks_of}
use Rattle.rcu_lists.specs.Segments.{labelled}
use Rattle.rcu_lists.specs.contracts.bypass.Bypass as bypass_row
use Rattle.rcu_part_lists.specs.Lanes.{put_calls}
use Rattle.rcu_part_lists.specs.Limits.{AreFew, AreSafe, IsSafe}
use Rattle.std.proofs.lemmas.Bool.{false≢true}
use Rattle.rcu_part_lists.specs.Outgoing.{IsReleasedIfAny, outgoing, poured}
use Rattle.rcu_part_lists.proofs.Releases.{same_outgoing}
use Rattle.rcu_part_lists.proofs.sends.pour_out.Goals as goal

pub send_if_any-requires : goal.send_if_any-requires
send_if_any-requires g c =
    let h : FitsInMemory (bypass_row.the_row (param 0 g.row.J)) = assumption in
    (h, (subst AreSafe (sym c.in-Ok.ensures.moved) (All-append IsSafe (bypass_items c.args.bypass.now) (callbacks_of (labelled c.args.own.now)) c.requires.safe c.requires.own), subst (λ l. AreFew (put_calls c.args.outlet.now.rear ++ l)) (sym c.in-Ok.ensures.moved) c.requires.few))

pub returns-in-Err-clause-safe : goal.returns-in-Err-clause-safe
returns-in-Err-clause-safe g c = subst AreSafe (sym c.in-Err.ensures.refused.1.items) c.requires.safe

pub returns-in-Ok-clause-safe : goal.returns-in-Ok-clause-safe
returns-in-Ok-clause-safe g c = c.send_if_any.ensures.safe

pub returns-in-Ok-clause-refused : goal.returns-in-Ok-clause-refused
returns-in-Ok-clause-refused g c = λ e. absurd (true≢false e)

pub returns-in-Err-clause-moved : goal.returns-in-Err-clause-moved
returns-in-Err-clause-moved g c = λ e. absurd (false≢true e)

pub returns-in-Err-clause-released : goal.returns-in-Err-clause-released
returns-in-Err-clause-released g c = λ e. absurd (false≢true e)

pub returns-in-Err-clause-fits : goal.returns-in-Err-clause-fits
returns-in-Err-clause-fits g c = λ none few. let room = c.args.bypass.now.roomy none in c.in-Err.ensures.had (omega (arith, room, few))

pub returns-in-Err-clause-none : goal.returns-in-Err-clause-none
returns-in-Err-clause-none g c = λ none. c.in-Err.ensures.none none

pub pour-requires : goal.pour-requires
pour-requires g c = assumption

pub returns-in-Ok-clause-lane : goal.returns-in-Ok-clause-lane
returns-in-Ok-clause-lane g c = c.send_if_any.ensures.lane

pub returns-in-Ok-clause-moved : goal.returns-in-Ok-clause-moved
returns-in-Ok-clause-moved g c = λ _. c.in-Ok.ensures.left

pub returns-in-Ok-clause-released : goal.returns-in-Ok-clause-released
returns-in-Ok-clause-released g c = λ _. let o = outgoing c.args.outlet.now.rear c.args.bypass.now in let e = c.in-Ok.ensures in
    subst (λ m. IsReleasedIfAny m (outgoing c.send_if_any.new.outlet.rear c.send_if_any.new.bypass))
    (same_outgoing (poured (callbacks_of (labelled c.args.own.now)) o) (outgoing c.args.outlet.now.rear c.pour.new.bypass) refl refl e.moved e.pace e.qhimark) c.send_if_any.ensures.released

pub returns-in-Ok-clause-fits : goal.returns-in-Ok-clause-fits
returns-in-Ok-clause-fits g c = λ _ _. refl

pub returns-in-Ok-clause-none : goal.returns-in-Ok-clause-none
returns-in-Ok-clause-none g c = λ _. refl

pub returns-in-Ok-clause-advanced : goal.returns-in-Ok-clause-advanced
returns-in-Ok-clause-advanced g c = c.in-Ok.ensures.advanced

pub returns-in-Err-clause-lane : goal.returns-in-Err-clause-lane
returns-in-Err-clause-lane g c = refl

pub returns-in-Err-clause-refused : goal.returns-in-Err-clause-refused
returns-in-Err-clause-refused g c = λ _. let e = c.in-Err.ensures.refused in
    (e.0.list, same_outgoing (outgoing c.args.outlet.now.rear c.args.bypass.now) (outgoing c.args.outlet.now.rear c.pour.new.bypass) refl refl e.1.items e.1.pace e.1.qhimark)

pub returns-in-Err-clause-advanced : goal.returns-in-Err-clause-advanced
returns-in-Err-clause-advanced g c = c.in-Err.ensures.advanced
