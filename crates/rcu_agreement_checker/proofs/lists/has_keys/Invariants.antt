use Rattle.std.proofs.Common.{◌≡◌, ◌≤◌, length, take}
use Rattle.rcu_world_checker.specs.Kinds.{keys}
use Rattle.rcu_agreement_checker.proofs.lists.has_keys.Given as goal

abbrev pub invariant-loop-mark : goal.invariant-loop-mark
invariant-loop-mark l = record {
  front : keys l.kind l.p (take l.mark-index l.history) ≡ take l.met l.wanted;
  within : l.met ≤ length l.wanted;
}
