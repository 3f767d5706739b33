use Rattle.std.proofs.Common.{◌≡◌, ◌≤◌, ◌+◌, [], List, count_by, take, vec_len}
use Rattle.indexmap.specs.IndexMap.{index_map_len}
use Rattle.rcu_setup.specs.Words.{Route}
use Rattle.rcuo_script.specs.Calls.{is_call}
use Rattle.rcuo_script.specs.Routes.{routes_of_calls}
use Rattle.rcuo_script.specs.Versions.{HasRetired}
use Rattle.rcuo_script.proofs.versions.retired.retire_by_script.Given as goal

abbrev pub invariant-loop-command : goal.invariant-loop-command
invariant-loop-command l = record {
  count : vec_len l.retiring.retired ≡ count_by is_call (take l.command-index l.script);
  few : vec_len l.retiring.retired ≤ l.command-index;
  small : index_map_len l.retiring.current ≤ 64 + l.command-index;
  versions : (first : List Route) → HasRetired first [] l.fn.retiring → HasRetired first (routes_of_calls (take l.command-index l.script)) l.retiring;
}
