use Rattle.test_world.proofs.AtRest.{rests}
use Rattle.test_world.proofs.Sends.{sent_as}
use Rattle.test_world.proofs.steps.call_lazily.Goals as goal

pub returns : goal.returns
returns g c = rests g.J.Job.key_of g.J.Job.gives c.args.world.now.core c.call_rcu_lazy.new.self.core c.requires c.call_rcu_lazy.ensures.called.stays

pub call_rcu_lazy-requires-after_bounds : goal.call_rcu_lazy-requires-after_bounds
call_rcu_lazy-requires-after_bounds g c κs within = (assumption, (c.requires.world, (c.requires.there, (c.expect_here.ensures, c.requires.rest))))

pub expect_here-requires-after_bounds : goal.expect_here-requires-after_bounds
expect_here-requires-after_bounds g c κs within = assumption

pub expect_here-requires-send-J : goal.expect_here-requires-send-J
expect_here-requires-send-J g c κs within = c.type_bounds.send-J

pub expect_here-requires-send-J-Receipt : goal.expect_here-requires-send-J-Receipt
expect_here-requires-send-J-Receipt g c κs within = c.type_bounds.send-J-Receipt

pub call_rcu_lazy-requires-send-J : goal.call_rcu_lazy-requires-send-J
call_rcu_lazy-requires-send-J g c κs within = c.type_bounds.send-J

pub call_rcu_lazy-requires-send-J-Receipt : goal.call_rcu_lazy-requires-send-J-Receipt
call_rcu_lazy-requires-send-J-Receipt g c κs within = sent_as 2 1 g.row.J-Receipt c.type_bounds.send-J-Receipt
