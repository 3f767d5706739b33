use Rattle.std.proofs.Common.{◌+◌, ◌∙◌, ap, sym, subst}
use Rattle.rcu_numbers.specs.Words.{Board}
use Rattle.rcu_world.specs.Boards.{GracePeriod, IsBoardOf}
use Rattle.rcu_world.proofs.Masks.{all_board, started}
use Rattle.rcu_world.proofs.boards.Board.start.Goals as goal

pub invariant_of-self : goal.invariant_of-self
invariant_of-self c =
    subst (IsBoardOf c.self.inside.processors) (sym (c.pack-self-inside.ensures ∙ ap {B = Board} (λ m. record { seq = c.seq.result + 1; mask = m }) c.all_processors.ensures.value))
    (all_board c.self.inside.processors (c.seq.result + 1) c.self.invariant.few)

pub returns : goal.returns
returns c = rw (c.pack-self-inside.ensures, c.all_processors.ensures.value, ← c.self.view_is, c.seq.ensures.same)
    (ap {B = GracePeriod} (λ bs. record { number = c.self.inside.word.seq + 1; owing = bs }) (started c.self.inside.processors c.self.inside.word))
