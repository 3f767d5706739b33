use Rattle.std.proofs.Common.{◌≡◌, ◌+◌, [], map, drop, vec_len}
use Rattle.rcu_setup.specs.Arrays.{lines_of, lines_view}
use Rattle.rcu_setup.proofs.arrays.lines.Given as goal

abbrev pub invariant-loop-i : goal.invariant-loop-i
invariant-loop-i l = record {
  rest : lines_of (l.i + 1) (lines_view l.found) (map (λ s. s.now) (drop l.i l.texts)) ≡ lines_of 1 [] (map (λ s. s.now) l.texts);
  each : vec_len l.found ≡ l.i;
}
