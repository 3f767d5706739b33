use Rattle.std.proofs.Common.{◌∙◌, ap}
use Rattle.rcu_board.specs.declared.board.Board.{Board}
use Rattle.rcu_part_processor.proofs.in_place.ProcessorInPlace.processors.Goals as goal

pub returns-clause-board : goal.returns-clause-board
returns-clause-board g c = c.processors.ensures.same ∙ ap (λ (b : Board). b.processors) c.deref.ensures

pub returns-clause-few : goal.returns-clause-few
returns-clause-few g c = c.processors.ensures.few
