use Rattle.rcu_world_law.specs.declared.marks.Mark.TheVariants.{Accepted}
use Rattle.rcu_world_checker.proofs.Deciding.{fits_at, lawful_more}
use Rattle.rcu_world_checker.proofs.lawful.is_lawful.Goals as goal

pub returns-then-not-fits : goal.returns-then-not-fits
returns-then-not-fits c = (
  λ e. absurd cc,
  λ lawful. absurd (let e = c.fits.ensures.1 (fits_at c.args.n c.args.history.now c.loop-place.place (Accepted 0 0) c.loop-place-test.true lawful) in let f = c.if-not-fits.true in cc),
)

pub loop-place-preserved : goal.loop-place-preserved
loop-place-preserved c = lawful_more c.args.n c.args.history.now c.loop-place.place (Accepted 0 0) c.loop-place-test.true c.loop-place.invariant (c.fits.ensures.0 c.if-not-fits.false)
