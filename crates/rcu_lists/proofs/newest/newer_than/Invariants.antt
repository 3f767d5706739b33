use Rattle.std.proofs.Common.{◌≡◌, take}
use Rattle.rcu_lists.specs.Filled.{filled}
use Rattle.rcu_lists.specs.Stamps.{newest_of, newer_of}
use Rattle.rcu_lists.proofs.newest.newer_than.Given as goal

abbrev pub invariant-loop-place : goal.invariant-loop-place
invariant-loop-place g l = l.greatest ≡ newer_of l.fn.stamp (newest_of (filled (take l.place-index l.places)))
