use Rattle.std.proofs.Common.{◌∙◌, length, ap, refl, sym, arith, length-drop}
use Rattle.std.proofs.lemmas.Bool.{false≢true}
use Rattle.rcu_lists.specs.Chains.{chain_items}
use Rattle.rcu_lists.proofs.Outcomes.{on_err_said, on_ok_never}
use Rattle.rcu_lists.proofs.Stamps.{last-drop, stamps-drop}
use Rattle.rcu_lists.proofs.chain.Chain.fill_batch.Goals as goal

pub fill_from-requires : goal.fill_from-requires
fill_from-requires g c = (assumption, (c.requires.none, c.requires.few))

pub invariant_of-self : goal.invariant_of-self
invariant_of-self g c = let s = c.args.self.now in let same = c.in_err-fill_from.ensures.refused.0 in record {
  counted = rw same s.counted;
  stamps = rw same s.stamps;
  newest = rw same s.newest;
}

pub returns-in_err-fill_from-clause-moved : goal.returns-in_err-fill_from-clause-moved
returns-in_err-fill_from-clause-moved g c = on_ok_never c.from_residual.result _ c.from_residual.ensures

pub returns-in_err-fill_from-clause-left : goal.returns-in_err-fill_from-clause-left
returns-in_err-fill_from-clause-left g c = on_ok_never c.from_residual.result _ c.from_residual.ensures

pub returns-in_err-fill_from-clause-inline : goal.returns-in_err-fill_from-clause-inline
returns-in_err-fill_from-clause-inline g c = λ few. absurd (false≢true (c.in_err-fill_from.ensures.inline few))

pub returns-in_err-fill_from-clause-refused : goal.returns-in_err-fill_from-clause-refused
returns-in_err-fill_from-clause-refused g c = on_err_said c.from_residual.result _ c.in_err-fill_from.ensures.refused

pub overflow_sub-self : goal.overflow_sub-self
overflow_sub-self g c = let s = c.args.self.now in omega (arith, s.counted, c.requires.few)

pub invariant_of-self-2 : goal.invariant_of-self-2
invariant_of-self-2 g c = let s = c.args.self.now in let t = c.args.number in let left = c.in_ok-fill_from.ensures.left in record {
  counted = ap length left ∙ length-drop t (chain_items s) ∙ omega (arith, s.counted);
  stamps = λ o. rw left (stamps-drop 0 t (chain_items s) (s.stamps o));
  newest = λ some. rw left (s.newest (omega arith) ∙ sym (last-drop 0 t (chain_items s) (omega (arith, s.counted))));
}

pub returns-clause-moved : goal.returns-clause-moved
returns-clause-moved g c = c.in_ok-fill_from.ensures.moved

pub returns-clause-left : goal.returns-clause-left
returns-clause-left g c = c.in_ok-fill_from.ensures.left

pub returns-clause-inline : goal.returns-clause-inline
returns-clause-inline g c = λ _. refl

pub returns-clause-refused : goal.returns-clause-refused
returns-clause-refused g c = tt
