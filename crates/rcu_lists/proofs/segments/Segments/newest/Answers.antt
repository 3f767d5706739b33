use Rattle.std.proofs.Common.{◌<◌, ◌∙◌, length, ap, sym, subst, get_or, ◌-◌, ◌≡◌}
use Rattle.rcu_lists.specs.Stamps.{newest_of}
use Rattle.rcu_lists.proofs.Stamps.{newest-back}
use Rattle.rcu_lists.proofs.Cuts.{callbacks-cut}
use Rattle.rcu_lists.proofs.segments.Segments.newest.Goals as goal

pub returns-then-not-self : goal.returns-then-not-self
returns-then-not-self g c = let s = c.args.self.now in c.greatest_stamp.ensures ∙ ap newest_of (sym (callbacks-cut s.bounds.wait_number s.bounds.ready_number s.bounds.done s.bounds.wait s.bounds.ready s.list.items s.within))

pub returns : goal.returns
returns g c = let s = c.args.self.now in
    let some : 0 < length s.list.items = c.in_ok-last.ensures.item.3.0 in
    let last = subst (λ n. c.in_ok-last.last.now ≡ get_or s.list.items (n - 1) c.in_ok-last.last.now) s.list.ok.0 c.in_ok-last.ensures.lookup in
    rw (callbacks-cut s.bounds.wait_number s.bounds.ready_number s.bounds.done s.bounds.wait s.bounds.ready s.list.items s.within)
    (sym (newest-back s.list.items c.in_ok-last.last.now (s.stamps c.if-not-self.false) some last))
