use Rattle.std.proofs.Common.{◌≡◌, ◌≤◌, ◌+◌, ◌++◌, List, vec_len}
use Rattle.indexmap.specs.IndexMap.{index_map_len}
use Rattle.rcu_setup.specs.Words.{Route}
use Rattle.rcuo_script.specs.Routes.{routes_of_round}
use Rattle.rcuo_script.specs.Versions.{HasRetired}
use Rattle.rcuo_script.proofs.versions.retired.retire_round.Given as goal

abbrev pub invariant-loop-cpu : goal.invariant-loop-cpu
invariant-loop-cpu l = record {
  many : vec_len l.retiring.retired ≡ vec_len l.fn.retiring.retired + l.cpu-counter;
  small : index_map_len l.retiring.current ≤ 64 + vec_len l.retiring.retired;
  versions : (first calls : List Route) → HasRetired first calls l.fn.retiring → HasRetired first (calls ++ routes_of_round l.round l.cpu-counter) l.retiring;
}
