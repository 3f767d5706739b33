use Rattle.std.proofs.lemmas.Bool.{false≢true}
use Rattle.std.proofs.Common.{◌∙◌, length, ap, arith, length-append, refl, sym}
use Rattle.rcu_lists.specs.Batches.{batch_items}
use Rattle.rcu_lists.specs.Chains.{chain_items}
use Rattle.rcu_lists.proofs.chain.Chain.join.Goals as goal

pub invariant_of-self : goal.invariant_of-self
invariant_of-self g c = let s = c.args.self.now in let same = (c.join_blocks.ensures.refused c.if-not-join_blocks.true).0 in record {
  counted = rw same s.counted;
  stamps = rw same s.stamps;
  newest = rw same s.newest;
}

pub invariant_of-self-2 : goal.invariant_of-self-2
invariant_of-self-2 g c = let s = c.args.self.now in let more = (c.join_blocks.ensures.joined c.if-not-join_blocks.false).0 in record {
  counted = ap length more ∙ length-append (chain_items s) (batch_items c.args.batch.now) ∙ omega (arith, s.counted, c.in-Some.ensures, c.len.ensures);
  stamps = rw more c.stamps_with-in_order.ensures.order;
  newest = λ _. rw more c.stamps_with-in_order.ensures.last;
}

pub returns-in_default-clause-joined : goal.returns-in_default-clause-joined
returns-in_default-clause-joined g c = λ e. absurd (false≢true e)

pub returns-in_default-clause-refused : goal.returns-in_default-clause-refused
returns-in_default-clause-refused g c = λ _. (refl, refl)

pub returns-then-not-join_blocks-clause-joined : goal.returns-then-not-join_blocks-clause-joined
returns-then-not-join_blocks-clause-joined g c = λ e. absurd (false≢true e)

pub returns-then-not-join_blocks-clause-refused : goal.returns-then-not-join_blocks-clause-refused
returns-then-not-join_blocks-clause-refused g c = λ _. c.join_blocks.ensures.refused c.if-not-join_blocks.true

pub returns-clause-joined : goal.returns-clause-joined
returns-clause-joined g c = λ _. c.join_blocks.ensures.joined c.if-not-join_blocks.false

pub returns-clause-refused : goal.returns-clause-refused
returns-clause-refused g c = λ e. absurd (false≢true (sym e))

pub len-requires : goal.len-requires
len-requires g c = assumption

pub stamps_with-in_order-requires : goal.stamps_with-in_order-requires
stamps_with-in_order-requires g c = assumption

pub join_blocks-requires : goal.join_blocks-requires
join_blocks-requires g c = assumption
