use Rattle.std.proofs.Common.{[], ◌∷◌, Some, ap, ◌∙◌, sym, subst, drop, arith, length-append}
use Rattle.std.proofs.lemmas.List.{drop-append-le}
use Rattle.rcu_lists.specs.Filled.{filled, AreFilled}
use Rattle.rcu_lists.proofs.Fills.{filled-snoc, still-filled}
use Rattle.rcu_lists.proofs.parcel.Places.add.Goals as goal

pub invariant_of-self : goal.invariant_of-self
invariant_of-self g c = let p = c.args.self.now in let more = c.push_reserved.ensures.items in
    let e = ap (drop p.next) more ∙ drop-append-le p.next p.slots.items (Some c.args.callback ∷ []) p.within in
    record {
      within = rw more (let w = p.within in simp length-append (omega arith));
      full = subst AreFilled (sym e) (still-filled (drop p.next p.slots.items) c.args.callback p.full);
    }

pub returns-clause-items : goal.returns-clause-items
returns-clause-items g c = let p = c.args.self.now in
    let e = ap (drop p.next) c.push_reserved.ensures.items ∙ drop-append-le p.next p.slots.items (Some c.args.callback ∷ []) p.within in
    ap filled e ∙ filled-snoc (drop p.next p.slots.items) c.args.callback
