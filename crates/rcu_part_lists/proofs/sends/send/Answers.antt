use Rattle.std.proofs.Common.{refl, sym, [], ◌++◌, subst}
use Rattle.std.proofs.lemmas.List.Elements.{All-head}
use Rattle.rcu_lists.specs.Release.{emptied}
use Rattle.rcu_part_lists.specs.Lanes.{put_calls}
use Rattle.rcu_part_lists.specs.Outgoing.{Outgoing, outgoing, IsReleased}
use Rattle.rcu_part_lists.specs.Limits.{IsSafe, AreFew, AreSafe}
use Rattle.rcu_part_lists.proofs.Releases.{same_outgoing, released-single}
use Rattle.rcu_part_lists.proofs.sends.send.Goals as goal

pub send_single-requires : goal.send_single-requires
send_single-requires g c = let s = c.in-Some.ensures.single in
    (assumption, (s.1, (All-head IsSafe c.in-Some.callback [] (subst AreSafe s.0 c.requires.safe), subst (λ l. AreFew (put_calls c.args.outlet.now.rear ++ l)) s.0 c.requires.few)))

pub returns-in-Some-clause-released : goal.returns-in-Some-clause-released
returns-in-Some-clause-released g c =
    let o = outgoing c.args.outlet.now.rear c.args.bypass.now in
    let s = c.in-Some.ensures.single in
    let m = outgoing c.args.outlet.now.rear c.flush_single.new.self in
    released-single o m (outgoing c.send_single.new.outlet.rear c.send_single.new.bypass) c.in-Some.callback s.0
    (same_outgoing (record o { bypass = []; pace = emptied o.pace }) m refl refl s.1 s.2 c.in-Some.ensures.qhimark)
    c.send_single.ensures.released

pub send_all-requires : goal.send_all-requires
send_all-requires g c = let same = sym c.in-None.ensures.single.1.items in
    (assumption, (subst AreSafe same c.requires.safe, subst (λ l. AreFew (put_calls c.args.outlet.now.rear ++ l)) same c.requires.few))

pub returns-in-None-clause-released : goal.returns-in-None-clause-released
returns-in-None-clause-released g c =
    let o = outgoing c.args.outlet.now.rear c.args.bypass.now in
    let same = c.in-None.ensures.single.1 in
    subst (λ (x : Outgoing g.row.J.Denot). IsReleased x (outgoing c.send_all.new.outlet.rear c.send_all.new.bypass))
    (same_outgoing o (outgoing c.args.outlet.now.rear c.flush_single.new.self) refl refl same.items same.pace same.qhimark)
    c.send_all.ensures.released

pub flush_single-requires : goal.flush_single-requires
flush_single-requires g c = assumption

pub returns-in-Some-clause-lane : goal.returns-in-Some-clause-lane
returns-in-Some-clause-lane g c = c.send_single.ensures.lane

pub returns-in-Some-clause-safe : goal.returns-in-Some-clause-safe
returns-in-Some-clause-safe g c = c.send_single.ensures.safe

pub returns-in-None-clause-lane : goal.returns-in-None-clause-lane
returns-in-None-clause-lane g c = c.send_all.ensures.lane

pub returns-in-None-clause-safe : goal.returns-in-None-clause-safe
returns-in-None-clause-safe g c = c.send_all.ensures.safe
