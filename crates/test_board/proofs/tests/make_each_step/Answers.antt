use Rattle.std.proofs.Common.{sym, subst, ◌∙◌}
use Rattle.rcu_board.specs.Roles.{IsProcessor, IsDriver, IsControl, MayNeed, MayCount, MayHalt}
use Rattle.test_board.proofs.tests.make_each_step.Goals as goal

pub asked-first-requires-clause-board : goal.asked-first-requires-clause-board
asked-first-requires-clause-board c = c.requires.processor.0

pub asked-first-requires-clause-who : goal.asked-first-requires-clause-who
asked-first-requires-clause-who c = subst IsProcessor (sym (c.requires.processor.1)) tt

pub asked-requires-clause-board : goal.asked-requires-clause-board
asked-requires-clause-board c = c.asked-first.ensures.same.table ∙ c.requires.processor.0

pub asked-requires-clause-who : goal.asked-requires-clause-who
asked-requires-clause-who c = subst IsProcessor (sym (c.asked-first.ensures.same.role ∙ c.requires.processor.1)) tt

pub heard-first-requires-clause-board : goal.heard-first-requires-clause-board
heard-first-requires-clause-board c = c.asked.ensures.same.table ∙ c.asked-first.ensures.same.table ∙ c.requires.processor.0

pub heard-requires-clause-board : goal.heard-requires-clause-board
heard-requires-clause-board c = c.heard-first.ensures.same.table ∙ c.asked.ensures.same.table ∙ c.asked-first.ensures.same.table ∙ c.requires.processor.0

pub need-requires-clause-board : goal.need-requires-clause-board
need-requires-clause-board c = c.heard.ensures.same.table ∙ c.heard-first.ensures.same.table ∙ c.asked.ensures.same.table ∙ c.asked-first.ensures.same.table ∙ c.requires.processor.0

pub need-requires-clause-who : goal.need-requires-clause-who
need-requires-clause-who c = subst MayNeed (sym (c.heard.ensures.same.role ∙ c.heard-first.ensures.same.role ∙ c.asked.ensures.same.role ∙ c.asked-first.ensures.same.role ∙ c.requires.processor.1)) tt

pub need-requires-2-clause-board : goal.need-requires-2-clause-board
need-requires-2-clause-board c = c.need.ensures.same.table ∙ c.heard.ensures.same.table ∙ c.heard-first.ensures.same.table ∙ c.asked.ensures.same.table ∙ c.asked-first.ensures.same.table ∙ c.requires.processor.0

pub need-requires-2-clause-who : goal.need-requires-2-clause-who
need-requires-2-clause-who c = subst MayNeed (sym (c.need.ensures.same.role ∙ c.heard.ensures.same.role ∙ c.heard-first.ensures.same.role ∙ c.asked.ensures.same.role ∙ c.asked-first.ensures.same.role ∙ c.requires.processor.1)) tt

pub ask-requires-clause-board : goal.ask-requires-clause-board
ask-requires-clause-board c = c.requires.control.0

pub ask-requires-clause-who : goal.ask-requires-clause-who
ask-requires-clause-who c = subst IsControl (sym (c.requires.control.1)) tt

pub urge-requires-clause-board : goal.urge-requires-clause-board
urge-requires-clause-board c = c.ask.ensures.same.table ∙ c.requires.control.0

pub urge-requires-clause-who : goal.urge-requires-clause-who
urge-requires-clause-who c = subst MayCount (sym (c.ask.ensures.same.role ∙ c.requires.control.1)) tt

pub halt-requires-clause-board : goal.halt-requires-clause-board
halt-requires-clause-board c = c.urge.ensures.same.table ∙ c.ask.ensures.same.table ∙ c.requires.control.0

pub halt-requires-clause-who : goal.halt-requires-clause-who
halt-requires-clause-who c = subst IsControl (sym (c.urge.ensures.same.role ∙ c.ask.ensures.same.role ∙ c.requires.control.1)) tt

pub halted-first-requires-clause-board : goal.halted-first-requires-clause-board
halted-first-requires-clause-board c = c.requires.driver.0

pub halted-first-requires-clause-who : goal.halted-first-requires-clause-who
halted-first-requires-clause-who c = subst MayHalt (sym (c.requires.driver.1)) tt

pub halted-requires-clause-board : goal.halted-requires-clause-board
halted-requires-clause-board c = c.halted-first.ensures.same.table ∙ c.requires.driver.0

pub halted-requires-clause-who : goal.halted-requires-clause-who
halted-requires-clause-who c = subst MayHalt (sym (c.halted-first.ensures.same.role ∙ c.requires.driver.1)) tt

pub needed-first-requires-clause-board : goal.needed-first-requires-clause-board
needed-first-requires-clause-board c = c.halted.ensures.same.table ∙ c.halted-first.ensures.same.table ∙ c.requires.driver.0

pub needed-first-requires-clause-who : goal.needed-first-requires-clause-who
needed-first-requires-clause-who c = subst IsDriver (sym (c.halted.ensures.same.role ∙ c.halted-first.ensures.same.role ∙ c.requires.driver.1)) tt

pub needed-requires-clause-board : goal.needed-requires-clause-board
needed-requires-clause-board c = c.needed-first.ensures.same.table ∙ c.halted.ensures.same.table ∙ c.halted-first.ensures.same.table ∙ c.requires.driver.0

pub needed-requires-clause-who : goal.needed-requires-clause-who
needed-requires-clause-who c = subst IsDriver (sym (c.needed-first.ensures.same.role ∙ c.halted.ensures.same.role ∙ c.halted-first.ensures.same.role ∙ c.requires.driver.1)) tt
