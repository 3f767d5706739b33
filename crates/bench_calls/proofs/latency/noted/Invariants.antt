use Rattle.std.proofs.Common.{◌≡◌, vec_len}
use Rattle.bench_calls.proofs.latency.noted.Given as goal

abbrev pub invariant-loop-place : goal.invariant-loop-place
invariant-loop-place l = vec_len l.times ≡ l.place-index
