use Rattle.std.proofs.Common.{◌≡◌, ◌≢◌, ℕ, refl, arith, ◌∙◌}
use Rattle.check_torture.specs.Endings.{EndsAt, more_of}
use Rattle.check_torture.specs.declared.actors.TheConstants.{MORE}
use Rattle.check_torture.specs.declared.plan.Ending.{Ending}
use Rattle.check_torture.specs.declared.plan.Ending.TheVariants.{DrainThenShut, Shut, Drain, Halt}
use Rattle.check_torture.proofs.actors.Orders.of.Goals as goal

-- a run that ends by a shut in the midst of calls
shuts : (place : ℕ) (e : Ending) → EndsAt place e → place ≡ 1 → more_of e ≡ MORE
shuts place DrainThenShut at one = absurd (let z : ⊥ = omega (arith, at, one) in z)
shuts place Shut at one = refl
shuts place Drain at one = absurd (let z : ⊥ = omega (arith, at, one) in z)
shuts place Halt at one = absurd (let z : ⊥ = omega (arith, at, one) in z)

-- any other run
shuts_not : (place : ℕ) (e : Ending) → EndsAt place e → place ≢ 1 → more_of e ≡ 0
shuts_not place DrainThenShut at other = refl
shuts_not place Shut at other = absurd (other at)
shuts_not place Drain at other = refl
shuts_not place Halt at other = refl

pub returns-clause-more : goal.returns-clause-more
returns-clause-more c = λ one. c.more_after.ensures ∙ shuts _ _ c.ending.ensures one

pub returns-clause-none : goal.returns-clause-none
returns-clause-none c = λ other. c.more_after.ensures ∙ shuts_not _ _ c.ending.ensures other
