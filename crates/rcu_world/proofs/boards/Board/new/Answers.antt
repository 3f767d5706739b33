use Rattle.std.proofs.Common.{ap, sym, subst}
use Rattle.rcu_world.specs.Boards.{GracePeriod, IsBoardOf}
use Rattle.rcu_world.proofs.Masks.{bits_none, none_board}
use Rattle.rcu_world.proofs.boards.Board.new.Goals as goal

pub invariant_of-result : goal.invariant_of-result
invariant_of-result c = subst (IsBoardOf c.args.processors) (sym c.pack.ensures) (none_board c.args.processors 0 c.requires)

pub returns : goal.returns
returns c = rw c.pack.ensures (ap {B = GracePeriod} (λ bs. record { number = 0; owing = bs }) (bits_none c.args.processors))
