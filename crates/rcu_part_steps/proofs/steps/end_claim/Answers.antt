use Rattle.std.proofs.Common.{◌+◌, ◌*◌, [], refl}
use Rattle.rcu_board.specs.Roles.{cpu_of_role}
use Rattle.rcu_board.specs.Seats.{view, running_number}
use Rattle.rcu_board.specs.Words.{turns_word, words_of}
use Rattle.rcu_board.proofs.Stepping.{has_words}
use Rattle.rcu_part_steps.proofs.Claiming.{once_on, turn_near}
use Rattle.rcu_part_steps.proofs.steps.end_claim.Goals as goal

pub returns-clause-only : goal.returns-clause-only
returns-clause-only c = let b = c.args.board.now in let s = c.args.seat.now in let v = view s in
    once_on (words_of b.processors) (turns_word (cpu_of_role s.role)) (2 * running_number v + 2) v (record v { running = [] }) (view c.finish.new.seat)
    (has_words b s c.requires.board) (turn_near b s c.requires.board c.requires.who) refl refl refl c.finish.ensures.view
