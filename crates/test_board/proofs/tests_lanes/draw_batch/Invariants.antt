use Rattle.std.proofs.Common.{◌≡◌}
use Rattle.rcu_lanes.specs.Ends.{SameFront, items_drawn}
use Rattle.test_board.proofs.tests_lanes.draw_batch.Given as goal

abbrev pub invariant-loop : goal.invariant-loop
invariant-loop g l = SameFront l.initial.front l.front × (items_drawn l.front ≡ items_drawn l.initial.front) × (goal.iterator-loop g).can_next l.iterator'
    × (goal.iterator-loop g).is_finite l.iterator'
