use Rattle.std.proofs.Common.{◌≡◌, sym, subst, true}
use Rattle.std.specs.Prelude.{IfOk}
use Rattle.rcu_world_law.specs.Steps.{claimed, claims, can_claim}
use Rattle.rcu_world_processor.specs.Views.{seen}
use Rattle.rcu_world_processor.specs.Makes.{MakesIfOk}
use Rattle.rcu_world_processor.proofs.claims.WorldProcessor+J+J+Receipt.claim.Goals as goal

pub returns-in-Local-clause-key : goal.returns-in-Local-clause-key
returns-in-Local-clause-key g c = subst (λ b. IfOk c.claim_own.result (λ key. key ≡ (claimed b (seen g.J.Job.key_of c.args.self.now)).key)) (sym c.in-Local.is) c.claim_own.ensures.key

pub returns-in-Hand-clause-key : goal.returns-in-Hand-clause-key
returns-in-Hand-clause-key g c = subst (λ b. IfOk c.claim_held.result (λ key. key ≡ (claimed b (seen g.J.Job.key_of c.args.self.now)).key)) (sym c.in-Hand.is) c.claim_held.ensures.key

pub claim_own-requires-after_bounds : goal.claim_own-requires-after_bounds
claim_own-requires-after_bounds g c κs within = (assumption, (subst (λ b. can_claim b (seen g.J.Job.key_of c.args.self.now) ≡ true) c.in-Local.is c.requires.ready, c.requires.fits))

pub claim_held-requires-after_bounds : goal.claim_held-requires-after_bounds
claim_held-requires-after_bounds g c κs within = (assumption, (subst (λ b. can_claim b (seen g.J.Job.key_of c.args.self.now) ≡ true) c.in-Hand.is c.requires.ready, c.requires.fits))

pub claim_own-requires-send-J : goal.claim_own-requires-send-J
claim_own-requires-send-J g c κs within = c.type_bounds.send-J

pub claim_own-requires-send-J-Receipt : goal.claim_own-requires-send-J-Receipt
claim_own-requires-send-J-Receipt g c κs within = c.type_bounds.send-J-Receipt

pub claim_held-requires-send-J : goal.claim_held-requires-send-J
claim_held-requires-send-J g c κs within = c.type_bounds.send-J

pub claim_held-requires-send-J-Receipt : goal.claim_held-requires-send-J-Receipt
claim_held-requires-send-J-Receipt g c κs within = c.type_bounds.send-J-Receipt

pub returns-in-Local-clause-step : goal.returns-in-Local-clause-step
returns-in-Local-clause-step g c = subst (λ b. MakesIfOk g.J.Job.key_of g.J.Job.gives (claims b) c.claim_own.result c.args.self.now c.claim_own.new.self) (sym c.in-Local.is) c.claim_own.ensures.step

pub returns-in-Hand-clause-step : goal.returns-in-Hand-clause-step
returns-in-Hand-clause-step g c = subst (λ b. MakesIfOk g.J.Job.key_of g.J.Job.gives (claims b) c.claim_held.result c.args.self.now c.claim_held.new.self) (sym c.in-Hand.is) c.claim_held.ensures.step
