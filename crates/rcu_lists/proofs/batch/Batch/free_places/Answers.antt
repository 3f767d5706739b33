use Rattle.std.proofs.lemmas.Bool.{false≢true}
use Rattle.std.proofs.Common.{refl, sym, ap, ◌∙◌, arith, length, zero-le}
use Rattle.std.specs.Mem.{FitsInMemory}
use Rattle.rcu_lists.specs.Filled.{filled}
use Rattle.rcu_lists.proofs.Sizes.{in_first}
use Rattle.rcu_lists.specs.contracts.batch.Batch as row
use denote.Param.{param}
use Rattle.rcu_lists.proofs.batch.Batch.free_places.Goals as goal

pub is_empty-requires : goal.is_empty-requires
is_empty-requires g c = assumption

pub clear-requires : goal.clear-requires
clear-requires g c = let h : FitsInMemory (row.the_row (param 0 g.row.J)) = assumption in in_first _ _ _ _ _ _ _ h

pub invariant_of-self : goal.invariant_of-self
invariant_of-self g c = let none = ap length c.clear.ensures.items in let same = c.clear.ensures.capacity in let places = c.args.self.now.inline in record {
  within = zero-le;
  full = rw c.clear.ensures.items refl;
  inline = omega arith;
  fits = omega arith;
}

pub returns-then-is_empty-clause-items : goal.returns-then-is_empty-clause-items
returns-then-is_empty-clause-items g c = ap filled c.clear.ensures.items ∙ sym (c.is_empty.ensures.0 c.if-is_empty.true)

pub returns-then-is_empty-clause-inline : goal.returns-then-is_empty-clause-inline
returns-then-is_empty-clause-inline g c = λ _. let none = ap length c.clear.ensures.items in let same = c.clear.ensures.capacity in let places = c.args.self.now.inline in omega arith

pub returns-then-is_empty-clause-room : goal.returns-then-is_empty-clause-room
returns-then-is_empty-clause-room g c = λ k h. let none = ap length c.clear.ensures.items in let same = c.clear.ensures.capacity in omega (arith, h)

pub returns-else-is_empty-clause-items : goal.returns-else-is_empty-clause-items
returns-else-is_empty-clause-items g c = refl

pub returns-else-is_empty-clause-inline : goal.returns-else-is_empty-clause-inline
returns-else-is_empty-clause-inline g c = λ e. absurd (false≢true (sym c.if-is_empty.false ∙ c.is_empty.ensures.1 e))

pub returns-else-is_empty-clause-room : goal.returns-else-is_empty-clause-room
returns-else-is_empty-clause-room g c = λ k h. h
