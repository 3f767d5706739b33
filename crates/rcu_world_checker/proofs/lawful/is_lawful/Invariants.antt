use Rattle.std.proofs.Common.{take}
use Rattle.rcu_world_law.specs.Law.{IsLawful}
use Rattle.rcu_world_checker.proofs.lawful.is_lawful.Given as goal

abbrev pub invariant-loop-place : goal.invariant-loop-place
invariant-loop-place l = IsLawful l.n (take l.place l.history)
