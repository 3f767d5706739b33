use Rattle.std.proofs.Common.{◌≡◌}
use Rattle.toml.specs.View.{members_view, table_view}
use Rattle.rcu_setup.specs.Keys.{known}
use Rattle.rcu_setup.proofs.keys.known.Given as goal

abbrev pub invariant-loop-name : goal.invariant-loop-name
invariant-loop-name l = known (members_view l.name-iterator) ≡ known (table_view l.table)
