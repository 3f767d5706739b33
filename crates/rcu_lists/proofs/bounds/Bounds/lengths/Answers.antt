use Rattle.std.proofs.Common.{◌≤◌, ◌+◌, length, sym, arith}
use Rattle.rcu_lists.proofs.Counts.{lengths-cut}
use Rattle.rcu_lists.proofs.bounds.Bounds.lengths.Goals as goal

pub returns : goal.returns
returns g c = λ cs len. let s = c.args.self.now in
    let le : s.done + s.wait + s.ready ≤ length cs = omega (arith, len, c.requires.within) in
    rw (sym len) (sym (lengths-cut s.wait_number s.ready_number s.done s.wait s.ready cs le (λ e. (s.filled e).0) s.rising))
