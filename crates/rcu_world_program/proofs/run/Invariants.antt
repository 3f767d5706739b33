use Rattle.std.proofs.Common.{◌≡◌, length, vec_len}
use Rattle.rcu_world_program.proofs.run.Given as goal

abbrev pub invariant-loop-key : goal.invariant-loop-key
invariant-loop-key l = vec_len l.jobs ≡ length l.yielded
