use Rattle.check_torture.proofs.Keeping.{steers_again}
use Rattle.check_torture.proofs.steerer.Steerer.pass_barriers.Goals as goal

pub returns-in_default-handed : goal.returns-in_default-handed
returns-in_default-handed g c = steers_again _ _ _ c.open_barrier.ensures.steers c.poll.ensures

pub returns-then-handed-own : goal.returns-then-handed-own
returns-then-handed-own g c = steers_again _ _ _ (steers_again _ _ _ c.open_barrier.ensures.steers c.poll.ensures) c.poll-then-handed-own.ensures

pub returns-else-handed-own : goal.returns-else-handed-own
returns-else-handed-own g c = steers_again _ _ _ c.open_barrier.ensures.steers c.poll.ensures
