use Rattle.test_board.proofs.tests.two_of_each.Goals as goal

pub returns-clause-first : goal.returns-clause-first
returns-clause-first g c = c.take_two_apart-two.ensures.first

pub returns-clause-second : goal.returns-clause-second
returns-clause-second g c = c.take_two_apart-two.ensures.second

pub returns-clause-first_hand : goal.returns-clause-first_hand
returns-clause-first_hand g c = c.take_two_apart-two.ensures.first_hand

pub returns-clause-second_hand : goal.returns-clause-second_hand
returns-clause-second_hand g c = c.take_two_apart-two.ensures.second_hand

pub returns-clause-driver : goal.returns-clause-driver
returns-clause-driver g c = c.take_two_apart-two.ensures.driver

pub returns-clause-control : goal.returns-clause-control
returns-clause-control g c = c.take_two_apart-two.ensures.control
