use Rattle.std.proofs.Common.{◌≡◌, [], ◌∷◌, ◌++◌, ◌+◌, ◌-◌, ◌∙◌, take, drop, sym, ap, arith, append_assoc, refl}
use Rattle.std.proofs.lemmas.List.{append-nil}
use Rattle.rcu_lists.specs.Batches.{batch_items}
use Rattle.rcu_lists.proofs.Fills.{moves-one}
use Rattle.rcu_lists.proofs.Rooms.{none-left}
use Rattle.rcu_lists.proofs.batch.Batch.take_from.Goals as goal

pub loop-preserved : goal.loop-preserved
loop-preserved g c = let xs = c.args.list.now.items in let x = c.in-Some.callback in
    let first : drop c.loop.counter xs ≡ x ∷ c.pop_front.new.self.items = sym c.loop.invariant.left ∙ c.in-Some.ensures.items in
    let one = moves-one c.loop.counter xs x c.pop_front.new.self.items first in
    let more = c.add.ensures.room (c.args.number - (c.loop.counter + 1)) (omega arith) in
    record {
      moved = c.add.ensures.items ∙ ap (λ z. z ++ x ∷ []) c.loop.invariant.moved ∙ append_assoc (batch_items c.args.self.now) (take c.loop.counter xs) (x ∷ []) ∙ ap (λ z. batch_items c.args.self.now ++ z) (sym one.0);
      left = sym one.1;
      room = more;
      left_room = λ k h. c.add.ensures.room k (c.loop.invariant.left_room (k + 1) (omega (arith, h)));
      capacity = c.pop_front.ensures.capacity ∙ c.loop.invariant.capacity;
    }

pub returns-clause-moved : goal.returns-clause-moved
returns-clause-moved g c = let all : c.loop.counter ≡ c.args.number = omega arith in rw all at c.loop.invariant.moved

pub returns-clause-left : goal.returns-clause-left
returns-clause-left g c = let all : c.loop.counter ≡ c.args.number = omega arith in rw all at c.loop.invariant.left

pub unreachable-requires : goal.unreachable-requires
unreachable-requires g c = none-left c.loop.counter c.args.number c.args.list.now.items c.loop.list.items c.loop-test.true c.requires.few c.loop.invariant.left c.loop.list.len c.loop.list.ok.0 c.in_default.ensures.cases.0

pub returns-clause-left_room : goal.returns-clause-left_room
returns-clause-left_room g c = let all : c.loop.counter ≡ c.args.number = omega arith in rw all at c.loop.invariant.left_room

pub returns-clause-capacity : goal.returns-clause-capacity
returns-clause-capacity g c = c.loop.invariant.capacity

pub loop-init : goal.loop-init
loop-init g c = record {
  moved = sym (append-nil (batch_items c.args.self.now));
  left = refl;
  room = omega (arith, c.requires.room);
  left_room = λ k h. omega (arith, h);
  capacity = refl;
}
