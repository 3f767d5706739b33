use Rattle.std.proofs.Common.{◌≡◌, subst, sym}
use Rattle.rcu_world_law.specs.Steps.{can_claim}
use Rattle.rcu_world_processor.specs.Views.{seen}
use Rattle.rcu_world_processor.proofs.claims.WorldProcessor+J+J+Receipt.can_claim.Goals as goal

pub can_claim_held-requires-send-J : goal.can_claim_held-requires-send-J
can_claim_held-requires-send-J g c κs within = c.type_bounds.send-J

pub can_claim_held-requires-send-J-Receipt : goal.can_claim_held-requires-send-J-Receipt
can_claim_held-requires-send-J-Receipt g c κs within = c.type_bounds.send-J-Receipt

pub can_claim_held-requires-after_bounds : goal.can_claim_held-requires-after_bounds
can_claim_held-requires-after_bounds g c κs within = (assumption, c.requires)

pub returns-in-Local : goal.returns-in-Local
returns-in-Local g c = subst (λ b. c.can_claim_first.result ≡ can_claim b (seen g.J.Job.key_of c.args.self.now)) (sym c.in-Local.is) c.can_claim_first.ensures

pub returns-in-Hand : goal.returns-in-Hand
returns-in-Hand g c = subst (λ b. c.can_claim_held.result ≡ can_claim b (seen g.J.Job.key_of c.args.self.now)) (sym c.in-Hand.is) c.can_claim_held.ensures
