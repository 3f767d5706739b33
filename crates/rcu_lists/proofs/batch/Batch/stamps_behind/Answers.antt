use Rattle.std.proofs.Common.{◌≡◌, ◌∙◌, ap, true, subst, arith}
use Rattle.std.specs.Mem.{FitsInMemory}
use Rattle.rcu_lists.specs.Stamps.{stamps_from, last_stamp}
use Rattle.rcu_lists.proofs.Fills.{filled-rest}
use Rattle.rcu_lists.proofs.Sizes.{in_first}
use Rattle.rcu_lists.specs.contracts.batch.Batch as row
use denote.Param.{param}
use Rattle.rcu_lists.proofs.batch.Batch.stamps_behind.Goals as goal

pub returns-clause-order : goal.returns-clause-order
returns-clause-order g c = λ e. let b = c.args.self.now in let p = c.stamps_behind.ensures.order e in
    (p.0, subst (λ cs. stamps_from c.args.last cs ≡ true) (filled-rest b.next b.slots.items c.deref.result.now c.deref.ensures) p.1)

pub returns-clause-last : goal.returns-clause-last
returns-clause-last g c = let b = c.args.self.now in
    c.stamps_behind.ensures.last ∙ ap (last_stamp c.args.last) (filled-rest b.next b.slots.items c.deref.result.now c.deref.ensures)

pub deref-requires : goal.deref-requires
deref-requires g c = let h : FitsInMemory (row.the_row (param 0 g.row.J)) = assumption in in_first _ _ _ _ _ _ _ h

pub offset_bounds-deref-self : goal.offset_bounds-deref-self
offset_bounds-deref-self g c = rw c.deref.ensures c.args.self.now.within

pub slice_bounds-stamps_behind-count : goal.slice_bounds-stamps_behind-count
slice_bounds-stamps_behind-count g c = rw c.deref.ensures c.args.self.now.within

pub slice_bounds-stamps_behind-start : goal.slice_bounds-stamps_behind-start
slice_bounds-stamps_behind-start g c = rw c.deref.ensures c.args.self.now.within

pub slice_bounds-stamps_behind-end : goal.slice_bounds-stamps_behind-end
slice_bounds-stamps_behind-end g c = omega arith
