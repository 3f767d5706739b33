use Rattle.std.proofs.Common.{sym, ap, subst, ◌∙◌}
use Rattle.rcu_board.specs.Roles.{MayClaim, MayCount}
use Rattle.rcu_board.specs.declared.view.View.{View}
use Rattle.test_board.proofs.tests_rows.turns_of_two.Goals as goal

pub run_all-requires-clause-board : goal.run_all-requires-clause-board
run_all-requires-clause-board c = c.requires.processor.0

pub run_all-requires-clause-who : goal.run_all-requires-clause-who
run_all-requires-clause-who c = subst MayClaim (sym c.requires.processor.1) tt

pub run_all-requires-clause-rests : goal.run_all-requires-clause-rests
run_all-requires-clause-rests c = c.requires.processor.2

pub turn_of-before-requires-clause-board : goal.turn_of-before-requires-clause-board
turn_of-before-requires-clause-board c = c.run_all.ensures.same.table ∙ c.requires.processor.0

pub turn_of-before-requires-clause-who : goal.turn_of-before-requires-clause-who
turn_of-before-requires-clause-who c = subst MayCount (sym (c.run_all.ensures.same.role ∙ c.requires.processor.1)) tt

pub claim-requires-clause-board : goal.claim-requires-clause-board
claim-requires-clause-board c = c.requires.hand.0

pub claim-requires-clause-who : goal.claim-requires-clause-who
claim-requires-clause-who c = c.requires.hand.1

pub claim-requires-clause-rests : goal.claim-requires-clause-rests
claim-requires-clause-rests c = c.requires.hand.2

pub claim-requires-2-clause-board : goal.claim-requires-2-clause-board
claim-requires-2-clause-board c = c.turn_of-before.ensures.same.table ∙ c.run_all.ensures.same.table ∙ c.requires.processor.0

pub claim-requires-2-clause-who : goal.claim-requires-2-clause-who
claim-requires-2-clause-who c = subst MayClaim (sym (c.turn_of-before.ensures.same.role ∙ c.run_all.ensures.same.role ∙ c.requires.processor.1)) tt

pub claim-requires-2-clause-rests : goal.claim-requires-2-clause-rests
claim-requires-2-clause-rests c = ap (λ (v : View). v.running) c.turn_of-before.ensures.view ∙ c.run_all.ensures.rests

pub finish-requires-clause-board : goal.finish-requires-clause-board
finish-requires-clause-board c = c.in-Won.ensures.same.table ∙ c.requires.hand.0

pub finish-requires-clause-who : goal.finish-requires-clause-who
finish-requires-clause-who c = subst MayClaim (sym c.in-Won.ensures.same.role) c.requires.hand.1

pub turn_of-between-requires-clause-board : goal.turn_of-between-requires-clause-board
turn_of-between-requires-clause-board c = c.in-Not.ensures.same.table ∙ c.turn_of-before.ensures.same.table ∙ c.run_all.ensures.same.table ∙ c.requires.processor.0

pub turn_of-between-requires-clause-who : goal.turn_of-between-requires-clause-who
turn_of-between-requires-clause-who c = subst MayCount (sym (c.in-Not.ensures.same.role ∙ c.turn_of-before.ensures.same.role ∙ c.run_all.ensures.same.role ∙ c.requires.processor.1)) tt

pub claim-requires-3-clause-board : goal.claim-requires-3-clause-board
claim-requires-3-clause-board c = c.turn_of-between.ensures.same.table ∙ c.in-Not.ensures.same.table ∙ c.turn_of-before.ensures.same.table ∙ c.run_all.ensures.same.table ∙ c.requires.processor.0

pub claim-requires-3-clause-who : goal.claim-requires-3-clause-who
claim-requires-3-clause-who c = subst MayClaim (sym (c.turn_of-between.ensures.same.role ∙ c.in-Not.ensures.same.role ∙ c.turn_of-before.ensures.same.role ∙ c.run_all.ensures.same.role ∙ c.requires.processor.1)) tt

pub claim-requires-3-clause-rests : goal.claim-requires-3-clause-rests
claim-requires-3-clause-rests c = ap (λ (v : View). v.running) c.turn_of-between.ensures.view ∙ ap (λ (v : View). v.running) c.in-Not.ensures.lost ∙ ap (λ (v : View). v.running) c.turn_of-before.ensures.view ∙ c.run_all.ensures.rests

pub turn_of-running-requires-clause-board : goal.turn_of-running-requires-clause-board
turn_of-running-requires-clause-board c = c.in-Won-claim.ensures.same.table ∙ c.turn_of-between.ensures.same.table ∙ c.in-Not.ensures.same.table ∙ c.turn_of-before.ensures.same.table ∙ c.run_all.ensures.same.table ∙ c.requires.processor.0

pub turn_of-running-requires-clause-who : goal.turn_of-running-requires-clause-who
turn_of-running-requires-clause-who c = subst MayCount (sym (c.in-Won-claim.ensures.same.role ∙ c.turn_of-between.ensures.same.role ∙ c.in-Not.ensures.same.role ∙ c.turn_of-before.ensures.same.role ∙ c.run_all.ensures.same.role ∙ c.requires.processor.1)) tt
