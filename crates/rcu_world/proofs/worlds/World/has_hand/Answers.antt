use Rattle.std.proofs.Common.{◌∙◌, ◌&&◌, false, ap, arith, get_or, sym}
use Rattle.rcu_world.proofs.Seen.{absent, has_at}
use Rattle.rcu_world.proofs.worlds.World.has_hand.Goals as goal

pub returns-then-i-len : goal.returns-then-i-len
returns-then-i-len g c = sym (absent g.J.Job.key_of c.args.self.now.core c.args.cpu _ (omega arith))

pub returns : goal.returns
returns g c = c.is_set.ensures ∙ sym (ap (λ b. b && get_or c.args.self.now.core.offloadable.items c.args.cpu false) (has_at g.J.Job.key_of c.args.self.now.core c.args.cpu (omega arith)))
