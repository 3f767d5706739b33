use Rattle.std.proofs.Common.{◌∙◌, ◌&&◌, not, ap}
use Rattle.std.specs.Prelude.{nat_lt}
use Rattle.rcu_world_processor.proofs.call.WorldProcessor+J+J+Receipt.can_accept.Goals as goal

pub returns : goal.returns
returns g c = let p = c.args.self.now in c.may_accept.ensures ∙ ap (λ b. not p.away && (not p.shut && (nat_lt p.count c.args.limit && b))) c.is_vacant.ensures
