use Rattle.rcu_board.proofs.Stepping.{same_again}
use Rattle.check_torture.proofs.steerer.Steerer.lead.Goals as goal

pub returns : goal.returns
returns g c = same_again _ _ _ _ _ _ c.steer.ensures.steers c.end.ensures
