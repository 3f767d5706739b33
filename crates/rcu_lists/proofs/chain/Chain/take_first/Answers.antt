use Rattle.std.proofs.Common.{◌≡◌, ◌∷◌, ◌∙◌, drop, length, ap, sym, arith}
use Rattle.rcu_lists.specs.Blocks.{blocks_items}
use Rattle.rcu_lists.specs.Chains.{chain_items}
use Rattle.rcu_lists.proofs.Stamps.{last-drop, stamps-drop}
use Rattle.rcu_lists.proofs.chain.Chain.take_first.Goals as goal

pub invariant_of-self-2 : goal.invariant_of-self-2
invariant_of-self-2 g c = let s = c.args.self.now in let rest = blocks_items c.take_from_blocks.new.blocks.items in
    let e : chain_items s ≡ c.in_ok-first.first ∷ rest = c.in_ok-first.ensures in let left : rest ≡ drop 1 (chain_items s) = ap (drop 1) (sym e) in record {
      counted = omega (arith, s.counted, ap length e);
      stamps = λ o. rw left (stamps-drop 0 1 (chain_items s) (s.stamps o));
      newest = λ some. rw left (s.newest (omega arith) ∙ sym (last-drop 0 1 (chain_items s) (omega (arith, s.counted))));
    }
