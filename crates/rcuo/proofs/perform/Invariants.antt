use Rattle.std.proofs.Common.{◌≡◌, length, vec_len}
use Rattle.rcuo.proofs.perform.Given as goal

abbrev pub invariant-loop-key : goal.invariant-loop-key
invariant-loop-key g l = vec_len l.jobs ≡ length l.yielded
