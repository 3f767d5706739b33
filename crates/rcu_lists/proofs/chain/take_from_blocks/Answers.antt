use Rattle.std.proofs.Common.{◌≡◌, ◌<◌, ◌++◌, [], ◌∷◌, ◌∙◌, drop, length, ap, refl, sym, arith, length-drop}
use Rattle.std.proofs.lemmas.Bool.{false≢true}
use Rattle.rcu_lists.specs.Blocks.{blocks_items}
use Rattle.rcu_lists.proofs.Blocks.{first-block, first-changed, first-gone, nothing-left}
use Rattle.rcu_lists.proofs.chain.take_from_blocks.Goals as goal

pub loop-block-init : goal.loop-block-init
loop-block-init g c = refl

pub part_some-blocks : goal.part_some-blocks
part_some-blocks g c = (c.in-Some.is, refl)

pub returns-in-Some-take_first : goal.returns-in-Some-take_first
returns-in-Some-take_first g c = let bs = c.loop-block.blocks.items in let some : 0 < length bs = omega (arith, c.in-Some.ensures.variant.0 refl, c.loop-block.blocks.ok.0) in
    sym c.loop-block.invariant ∙ first-block bs c.in-Some.block.now some c.in-Some.ensures.value ∙ ap (λ l. l ++ blocks_items (drop 1 bs)) c.in-Some-take_first.ensures
    ∙ ap (λ l. c.in-Some-take_first.first ∷ l) (sym (first-changed bs c.take_first.new.self some))

pub loop-block-smaller-in_default-take_first : goal.loop-block-smaller-in_default-take_first
loop-block-smaller-in_default-take_first g c = let bs = c.loop-block.blocks.items in let left = ap length (first-gone bs c.take_first.new.self) in
    omega (arith, ap length c.pop_front.ensures.rest, left, length-drop 1 bs, c.in-Some.ensures.variant.0 refl, c.loop-block.blocks.ok.0)

pub loop-block-preserved-in_default-take_first : goal.loop-block-preserved-in_default-take_first
loop-block-preserved-in_default-take_first g c = let bs = c.loop-block.blocks.items in let some : 0 < length bs = omega (arith, c.in-Some.ensures.variant.0 refl, c.loop-block.blocks.ok.0) in
    ap blocks_items c.pop_front.ensures.rest ∙ ap blocks_items (first-gone bs c.take_first.new.self)
    ∙ sym (first-block bs c.in-Some.block.now some c.in-Some.ensures.value ∙ ap (λ l. l ++ blocks_items (drop 1 bs)) c.in_default-take_first.ensures.0) ∙ c.loop-block.invariant

pub loop-block-smaller : goal.loop-block-smaller
loop-block-smaller g c = let bs = c.loop-block.blocks.items in let left = ap length (first-gone bs c.take_first.new.self) in
    omega (arith, ap length c.pop_front.ensures.rest, left, length-drop 1 bs, c.in-Some.ensures.variant.0 refl, c.loop-block.blocks.ok.0)

pub loop-block-preserved : goal.loop-block-preserved
loop-block-preserved g c = let bs = c.loop-block.blocks.items in let some : 0 < length bs = omega (arith, c.in-Some.ensures.variant.0 refl, c.loop-block.blocks.ok.0) in
    ap blocks_items c.pop_front.ensures.rest ∙ ap blocks_items (first-gone bs c.take_first.new.self)
    ∙ sym (first-block bs c.in-Some.block.now some c.in-Some.ensures.value ∙ ap (λ l. l ++ blocks_items (drop 1 bs)) c.in_default-take_first.ensures.0) ∙ c.loop-block.invariant

pub part_none-blocks : goal.part_none-blocks
part_none-blocks g c = (c.in_default.is, refl)

pub returns : goal.returns
returns g c = let l = c.loop-block in let none : 0 < l.blocks.len → ⊥ = λ lt. false≢true (c.in_default.ensures.variant.1 lt) in
    let all : blocks_items l.blocks.items ≡ [] = ap blocks_items (nothing-left l.blocks.items (omega (arith, none, l.blocks.ok.0)) refl) in
    (sym l.invariant ∙ all, all)
