use Rattle.std.proofs.Common.{◌≡◌, ◌≤◌, [], map, take}
use Rattle.indexmap.specs.IndexMap.{index_map_len}
use Rattle.rcu_setup.specs.Arrays.{route_view}
use Rattle.rcuo_script.specs.Routes.{bytes_of, routes_in, with_routes}
use Rattle.rcuo_script.proofs.versions.table.first_version.Given as goal

abbrev pub invariant-loop-name : goal.invariant-loop-name
invariant-loop-name l = record {
  small : index_map_len l.version ≤ l.name-index;
  routes : routes_in l.version ≡ with_routes [] (map route_view (take l.name-index l.routes));
  bytes : l.bytes ≡ bytes_of (routes_in l.version);
}
