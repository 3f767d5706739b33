use Rattle.std.proofs.Common.{rules}
use Rattle.bench_calls.proofs.idle.run_idle.Goals as goal

pub run_in_threads-requires-send-J : goal.run_in_threads-requires-send-J
run_in_threads-requires-send-J g c κs within = search rules

pub run_in_threads-requires-send-R : goal.run_in_threads-requires-send-R
run_in_threads-requires-send-R g c κs within = search rules
