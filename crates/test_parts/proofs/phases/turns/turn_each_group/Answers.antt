use Rattle.std.proofs.Math.ListN.{length-set}
use Rattle.std.proofs.Common.{arith, refl, ◌∙◌}
use Rattle.rcu_part_group.proofs.GroupTurns.{same_group}
use Rattle.rcu_part_group.specs.Groups.{SameGroup}
use Rattle.test_parts.proofs.Keeping.{groups_again, groups_none}
use Rattle.test_parts.proofs.phases.turns.turn_each_group.Goals as goal
use Rattle.rcu_lemmas.proofs.Changed.{zip_changed}

pub loop-place-init : goal.loop-place-init
loop-place-init g c = record { same = groups_none c.args.groups.now.items; long = refl }

pub loop-place-preserved : goal.loop-place-preserved
loop-place-preserved g c = let i = c.loop-place.invariant in let groups = c.loop-place.groups.items in
    let turned = zip_changed (λ x y. SameGroup x.state y.state) (λ x. same_group x.state) groups c.loop-place.place c.index_mut.result.now c.turn.new.self (omega arith) c.index_mut.ensures.value c.turn.ensures.same in record {
      same = groups_again _ groups _ i.same turned;
      long = length-set groups c.loop-place.place c.turn.new.self ∙ i.long;
    }

pub turn-requires-send-J : goal.turn-requires-send-J
turn-requires-send-J g c κs within = assumption

pub turn-requires-after_bounds : goal.turn-requires-after_bounds
turn-requires-after_bounds g c κs within = assumption
