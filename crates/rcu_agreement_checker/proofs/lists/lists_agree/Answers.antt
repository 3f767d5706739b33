use Rattle.std.proofs.Common.{subst}
use Rattle.std.proofs.lemmas.List.{length-map}
use Rattle.rcu_agreement_checker.specs.Known.{all_known, known}
use Rattle.rcu_agreement_checker.specs.Lists.{AreOf}
use Rattle.rcu_agreement_checker.proofs.Listing.{agreed_of}
use Rattle.rcu_agreement_checker.proofs.lists.lists_agree.Goals as goal

pub returns-then-not-are_of : goal.returns-then-not-are_of
returns-then-not-are_of c = (
  λ e. absurd cc,
  λ lists. absurd (
      let of = agreed_of (all_known c.args.accounts.now) c.args.history.now lists in
      let e = c.are_of.ensures.1 (subst (λ n. AreOf n c.args.history.now) (length-map c.args.accounts.now known) of) in
      let f = c.if-not-are_of.true in
      cc
      ),
)
