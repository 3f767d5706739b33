use Rattle.std.proofs.Common.{arith}
use Rattle.rcu_agreement_checker.proofs.Listing.{all_reported}
use Rattle.rcu_agreement_checker.proofs.lists.are_reported.Goals as goal

pub returns : goal.returns
returns c = (
  λ e. all_reported c.args.accounts.now c.args.history.now c.requires.known (λ q l. c.loop-q.invariant q (omega (arith, c.loop-q-test.false))),
  λ reported. cc,
)
