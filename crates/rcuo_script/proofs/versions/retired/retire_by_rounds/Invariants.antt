use Rattle.std.proofs.Common.{◌≡◌, ◌≤◌, ◌+◌, ◌*◌, [], List, vec_len}
use Rattle.indexmap.specs.IndexMap.{index_map_len}
use Rattle.rcu_setup.specs.Words.{Route}
use Rattle.rcuo_script.specs.Routes.{routes_of_rounds}
use Rattle.rcuo_script.specs.Versions.{HasRetired}
use Rattle.rcuo_script.proofs.versions.retired.retire_by_rounds.Given as goal

abbrev pub invariant-loop-round : goal.invariant-loop-round
invariant-loop-round l = record {
  many : vec_len l.retiring.retired ≡ l.round * l.processors;
  few : vec_len l.retiring.retired ≤ 32 * l.round;
  small : index_map_len l.retiring.current ≤ 64 + vec_len l.retiring.retired;
  versions : (first : List Route) → HasRetired first [] l.fn.retiring → HasRetired first (routes_of_rounds l.processors l.round) l.retiring;
}
