use Rattle.std.proofs.Common.{◌≡◌, ◌+◌, [], map, drop, vec_len}
use Rattle.rcu_setup.specs.Arrays.{routes_of, routes_view}
use Rattle.rcu_setup.proofs.arrays.routes.Given as goal

abbrev pub invariant-loop-i : goal.invariant-loop-i
invariant-loop-i l = record {
  rest : routes_of (l.i + 1) (routes_view l.found) (map (λ s. s.now) (drop l.i l.texts)) ≡ routes_of 1 [] (map (λ s. s.now) l.texts);
  each : vec_len l.found ≡ l.i;
}
