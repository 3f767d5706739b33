use Rattle.std.proofs.Common.{◌≡◌, ◌+◌, ap, sym, subst, true}
use Rattle.rcu_world_law.specs.Lists.{none_owes}
use Rattle.rcu_world.specs.Boards.{GracePeriod, IsBoardOf}
use Rattle.rcu_world.proofs.Masks.{ended, none_board}
use Rattle.rcu_world.proofs.boards.Board.end.Goals as goal

pub invariant_of-self : goal.invariant_of-self
invariant_of-self c = subst (IsBoardOf c.self.inside.processors) (sym c.pack-self-inside.ensures) (none_board c.self.inside.processors c.ended.result c.self.invariant.few)

pub returns : goal.returns
returns c =
    let none = subst (λ b. none_owes b.owing ≡ true) (sym c.self.view_is) c.requires.reported in
    rw (c.pack-self-inside.ensures, ← c.self.view_is, c.ended.ensures.next, c.seq.ensures.same)
    (ap {B = GracePeriod} (λ bs. record { number = c.self.inside.word.seq + 3; owing = bs }) (ended c.self.inside.processors c.self.inside.word none))
