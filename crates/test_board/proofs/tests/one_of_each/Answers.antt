use Rattle.test_board.proofs.tests.one_of_each.Goals as goal

pub returns-clause-processor : goal.returns-clause-processor
returns-clause-processor g c = c.take_apart-parts.ensures.processor

pub returns-clause-hand : goal.returns-clause-hand
returns-clause-hand g c = c.take_apart-parts.ensures.hand

pub returns-clause-group : goal.returns-clause-group
returns-clause-group g c = c.take_apart-parts.ensures.group

pub returns-clause-driver : goal.returns-clause-driver
returns-clause-driver g c = c.take_apart-parts.ensures.driver

pub returns-clause-control : goal.returns-clause-control
returns-clause-control g c = c.take_apart-parts.ensures.control
