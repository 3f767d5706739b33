use Rattle.std.proofs.lemmas.Bool.{false≢true}
use Rattle.std.proofs.Common.{◌≡◌, ◌<◌, ◌+◌, ◌∷◌, length, drop, ap, suc, sym, ◌∙◌, subst, arith, add-one, length-set}
use Rattle.std.proofs.Math.Seq.{drop-cons}
use Rattle.std.proofs.lemmas.List.{drop-set-lt, drop_all}
use Rattle.rcu_lists.specs.Filled.{filled, AreFilled}
use Rattle.rcu_lists.proofs.Fills.{first-filled, takes-first}
use Rattle.rcu_lists.proofs.parcel.Places.take_first.Goals as goal

pub invariant_of-self : goal.invariant_of-self
invariant_of-self g c = let p = c.args.self.now in let xs = p.slots.items in let slot = c.in-Some.slot.now in
    let lt : p.next < length xs = omega (arith, c.if-next-len.false, c.len.ensures, p.slots.ok.0) in
    let e : drop p.next xs ≡ slot ∷ drop (p.next + 1) xs = rw add-one (drop-cons xs p.next slot lt ∙ ap (λ x. x ∷ drop (suc p.next) xs) (sym c.in-Some.ensures.value)) in
    record {
      within = simp length-set (omega arith);
      full = subst AreFilled (sym (drop-set-lt (p.next + 1) xs p.next c.take-first.new.self (omega arith))) (first-filled slot (drop (p.next + 1) xs) (subst AreFilled e p.full)).0;
    }

pub returns : goal.returns
returns g c = let p = c.args.self.now in let xs = p.slots.items in let slot = c.in-Some.slot.now in
    let lt : p.next < length xs = omega (arith, c.if-next-len.false, c.len.ensures, p.slots.ok.0) in
    let e : drop p.next xs ≡ slot ∷ drop (p.next + 1) xs = rw add-one (drop-cons xs p.next slot lt ∙ ap (λ x. x ∷ drop (suc p.next) xs) (sym c.in-Some.ensures.value)) in
    takes-first _ c.take-first.result slot (drop (p.next + 1) xs) _ _ (subst AreFilled e p.full) c.take-first.ensures.value (ap filled e) (ap filled (drop-set-lt (p.next + 1) xs p.next c.take-first.new.self (omega arith)))

pub returns-then-next-len : goal.returns-then-next-len
returns-then-next-len g c = let p = c.args.self.now in
    let none = ap filled (drop_all p.next p.slots.items (omega (arith, c.if-next-len.true, c.len.ensures))) in (none, none)

pub unreachable-requires : goal.unreachable-requires
unreachable-requires g c = absurd (false≢true (c.in_default.ensures.variant.1 (omega (arith, c.if-next-len.false, c.len.ensures))))
