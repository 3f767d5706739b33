use Rattle.std.proofs.Common.{◌≡◌, option_map, subst}
use Rattle.toml.specs.Data.{get_member}
use Rattle.toml.specs.View.{table_view, view}
use Rattle.toml.proofs.Views.{table_get}
use Rattle.rcu_setup.proofs.keys.at.Goals as goal

pub returns : goal.returns
returns c =
    subst (λ name. option_map (λ v. view v.now) c.get.result ≡ get_member name (table_view c.args.table.now)) c.name.ensures
    (table_get c.get.result c.name.result.now c.args.table.now.entries c.get.ensures.value)
