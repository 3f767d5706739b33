use Rattle.std.proofs.lemmas.Bool.{false≢true}
use Rattle.std.proofs.Common.{refl, sym, ◌∙◌, arith}
use Rattle.rcu_lists.specs.Batches.{batch_items}
use Rattle.rcu_lists.proofs.Fills.{no-snoc}
use Rattle.rcu_lists.proofs.Sizes.{bypass-batch}
use denote.Param.{param}
use Rattle.rcu_lists.proofs.bypass.Bypass.refill_single.Goals as goal

pub add-requires : goal.add-requires
add-requires g c = (bypass-batch (param 0 g.row.J) assumption, let room = c.args.self.now.roomy c.requires.none in omega (arith, room))

pub invariant_of-self : goal.invariant_of-self
invariant_of-self g c = record {
  unmarked = λ e. absurd (no-snoc (batch_items c.args.self.now.held) c.args.single (sym c.add.ensures.items ∙ e));
  marked = λ p. absurd (false≢true (sym p));
  roomy = λ e. absurd (no-snoc (batch_items c.args.self.now.held) c.args.single (sym c.add.ensures.items ∙ e));
}

pub returns-clause-pace : goal.returns-clause-pace
returns-clause-pace g c = refl

pub returns-clause-qhimark : goal.returns-clause-qhimark
returns-clause-qhimark g c = refl
