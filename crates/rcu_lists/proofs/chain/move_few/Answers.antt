use Rattle.std.proofs.Common.{◌≡◌, [], ◌∷◌, ◌++◌, ◌+◌, ◌-◌, ◌∙◌, take, drop, sym, ap, arith, append_assoc, length, length-drop, refl}
use Rattle.std.proofs.lemmas.List.{append-nil}
use Rattle.rcu_lists.specs.Batches.{batch_items}
use Rattle.rcu_lists.specs.Blocks.{blocks_items}
use Rattle.rcu_lists.proofs.Fills.{moves-one}
use Rattle.rcu_lists.proofs.chain.move_few.Goals as goal

pub loop-preserved : goal.loop-preserved
loop-preserved g c = let xs = blocks_items c.args.blocks.now.items in let x = c.in-Some.callback in let rest = blocks_items c.take_from_blocks.new.blocks.items in
    let first : drop c.loop.counter xs ≡ x ∷ rest = sym c.loop.invariant.left ∙ c.in-Some.ensures in
    let one = moves-one c.loop.counter xs x rest first in
    record {
      moved = c.add.ensures.items ∙ ap (λ z. z ++ x ∷ []) c.loop.invariant.moved ∙ append_assoc (batch_items c.args.batch.now) (take c.loop.counter xs) (x ∷ []) ∙ ap (λ z. batch_items c.args.batch.now ++ z) (sym one.0);
      left = sym one.1;
      room = c.add.ensures.room (c.args.number - (c.loop.counter + 1)) (omega arith);
    }

pub returns-clause-moved : goal.returns-clause-moved
returns-clause-moved g c = let all : c.loop.counter ≡ c.args.number = omega arith in rw all at c.loop.invariant.moved

pub returns-clause-left : goal.returns-clause-left
returns-clause-left g c = let all : c.loop.counter ≡ c.args.number = omega arith in rw all at c.loop.invariant.left

pub unreachable-requires : goal.unreachable-requires
unreachable-requires g c = let xs = blocks_items c.args.blocks.now.items in
    let none = ap length (sym c.loop.invariant.left ∙ c.in_default.ensures.0) in let left = length-drop c.loop.counter xs in omega (arith, c.requires.few, c.loop-test.true)

pub loop-init : goal.loop-init
loop-init g c = record { moved = sym (append-nil (batch_items c.args.batch.now)); left = refl; room = omega (arith, c.requires.room) }
