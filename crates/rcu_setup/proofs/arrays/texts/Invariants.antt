use Rattle.std.proofs.Common.{◌≡◌, drop}
use Rattle.toml.specs.View.{items_view, view}
use Rattle.rcu_setup.specs.Arrays.{items_texts, texts_in, texts_view}
use Rattle.rcu_setup.proofs.arrays.texts.Given as goal

abbrev pub invariant-loop-item : goal.invariant-loop-item
invariant-loop-item l =
    items_texts l.key (texts_view l.found) (items_view (drop l.item-index l.item-items)) ≡ texts_in l.key (view l.value)
