use Rattle.std.proofs.Common.{◌≡◌, map}
use Rattle.rcu_lists.specs.Stamps.{newest_of}
use Rattle.rcu_lists.proofs.segments.greatest_stamp.Given as goal

abbrev pub invariant-loop-callback : goal.invariant-loop-callback
invariant-loop-callback g l = l.greatest ≡ newest_of (map (λ r. r.now) l.yielded)
