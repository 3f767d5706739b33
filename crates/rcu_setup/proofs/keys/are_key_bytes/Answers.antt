use Rattle.std.proofs.Common.{rules}
use Rattle.std.proofs.lemmas.Iterator.Search.{all_from_yields_List}
use Rattle.std.proofs.lemmas.Iterator.Adapters.{YieldsList-from_bytes}
use Rattle.rcu_setup.specs.Keys.{is_key_byte}
use Rattle.rcu_setup.proofs.keys.are_key_bytes.Goals as goal

pub returns : goal.returns
returns c =
    all_from_yields_List is_key_byte _ _ _ c.all.ensures.ran (YieldsList-from_bytes c.args.name.now cc) (λ x b q k. search rules)
