use Rattle.std.proofs.Common.{◌∙◌, ap, get_or, false}
use Rattle.rcu_world.proofs.Masks.{owes_beyond, owes_there}
use Rattle.rcu_world.proofs.boards.Board.owes.Goals as goal

pub returns-then-cpu-self : goal.returns-then-cpu-self
returns-then-cpu-self c = owes_there c.self.inside.processors c.self.inside.word c.args.cpu c.owes.result c.if-cpu-self.true c.owes.ensures
    ∙ ap (λ b. get_or b.owing c.args.cpu false) c.self.view_is

pub returns-else-cpu-self : goal.returns-else-cpu-self
returns-else-cpu-self c = owes_beyond c.self.inside.processors c.self.inside.word c.args.cpu c.if-cpu-self.false
    ∙ ap (λ b. get_or b.owing c.args.cpu false) c.self.view_is
