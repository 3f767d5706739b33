use Rattle.std.proofs.Common.{arith}
use Rattle.rcu_agreement_checker.proofs.Listing.{all_listed}
use Rattle.rcu_agreement_checker.proofs.lists.are_listed.Goals as goal

pub returns : goal.returns
returns c = (
  λ e. all_listed c.args.accounts.now c.args.history.now c.requires.known c.args.kind (λ p l. c.loop-p.invariant p (omega (arith, c.loop-p-test.false))),
  λ listed. cc,
)
