use Rattle.std.proofs.Common.{◌≡◌, ◌<◌, get_or, ◌∙◌, arith}
use Rattle.rcu_lists.proofs.Counts.{count-done}
use Rattle.rcu_lists.proofs.Cuts.{first-done}
use Rattle.rcu_lists.proofs.segments.Segments.first_done.Goals as goal

pub returns-then-self-eq0 : goal.returns-then-self-eq0
returns-then-self-eq0 g c = let s = c.args.self.now in count-done s.bounds.wait_number s.bounds.ready_number s.bounds.done s.bounds.wait s.bounds.ready s.list.items s.within ∙ c.if-self-eq0.true

pub returns : goal.returns
returns g c = let s = c.args.self.now in
    let some : 0 < s.bounds.done = omega arith in
    let e : c.in-Some.first.now ≡ get_or s.list.items 0 c.in-Some.first.now = c.in-Some.ensures.lookup in
    first-done s.bounds.wait_number s.bounds.ready_number s.bounds.done s.bounds.wait s.bounds.ready s.list.items c.in-Some.first.now some s.within e
