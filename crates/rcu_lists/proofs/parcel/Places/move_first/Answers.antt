use Rattle.std.proofs.lemmas.Bool.{false≢true}
use Rattle.std.proofs.Common.{◌≡◌, ◌<◌, ◌+◌, [], ◌∷◌, ◌++◌, length, take, drop, ap, suc, sym, ◌∙◌, subst, arith, add-one, length-set, length-drop, length-append}
use Rattle.std.proofs.Math.Seq.{drop-cons}
use Rattle.std.proofs.lemmas.List.{drop-append-le, drop-set-lt}
use Rattle.rcu_lists.specs.Filled.{filled, AreFilled}
use Rattle.rcu_lists.proofs.Fills.{first-filled, moves-place, rest-filled}
use Rattle.rcu_lists.proofs.parcel.Places.move_first.Goals as goal

pub invariant_of-to : goal.invariant_of-to
invariant_of-to g c = let p = c.args.self.now in let xs = p.slots.items in let slot = c.in-Some.slot.now in let t = c.args.to.now in
    let lt : p.next < length xs = let n = length-drop p.next xs in omega (arith, n, p.full, c.requires.some) in
    let e : drop p.next xs ≡ slot ∷ drop (p.next + 1) xs = rw add-one (drop-cons xs p.next slot lt ∙ ap (λ x. x ∷ drop (suc p.next) xs) (sym c.in-Some.ensures.value)) in
    let more = c.push_reserved.ensures.items ∙ ap (λ s. t.slots.items ++ s ∷ []) c.take.ensures.value in
    let d = ap (drop t.next) more ∙ drop-append-le t.next t.slots.items (slot ∷ []) t.within in
    record {
      within = rw more (let w = t.within in simp length-append (omega arith));
      full = subst AreFilled (sym d) (moves-place slot (drop (p.next + 1) xs) (drop t.next t.slots.items) (subst AreFilled e p.full) t.full).0;
    }

pub invariant_of-self : goal.invariant_of-self
invariant_of-self g c = let p = c.args.self.now in let xs = p.slots.items in let slot = c.in-Some.slot.now in
    let lt : p.next < length xs = let n = length-drop p.next xs in omega (arith, n, p.full, c.requires.some) in
    let e : drop p.next xs ≡ slot ∷ drop (p.next + 1) xs = rw add-one (drop-cons xs p.next slot lt ∙ ap (λ x. x ∷ drop (suc p.next) xs) (sym c.in-Some.ensures.value)) in
    record {
      within = simp length-set (omega arith);
      full = subst AreFilled (sym (drop-set-lt (p.next + 1) xs p.next c.take.new.self (omega arith))) (first-filled slot (drop (p.next + 1) xs) (subst AreFilled e p.full)).0;
    }

pub returns-clause-moved : goal.returns-clause-moved
returns-clause-moved g c = let p = c.args.self.now in let xs = p.slots.items in let slot = c.in-Some.slot.now in let t = c.args.to.now in
    let lt : p.next < length xs = let n = length-drop p.next xs in omega (arith, n, p.full, c.requires.some) in
    let e : drop p.next xs ≡ slot ∷ drop (p.next + 1) xs = rw add-one (drop-cons xs p.next slot lt ∙ ap (λ x. x ∷ drop (suc p.next) xs) (sym c.in-Some.ensures.value)) in
    let more = c.push_reserved.ensures.items ∙ ap (λ s. t.slots.items ++ s ∷ []) c.take.ensures.value in
    let d = ap (drop t.next) more ∙ drop-append-le t.next t.slots.items (slot ∷ []) t.within in
    ap filled d ∙ (moves-place slot (drop (p.next + 1) xs) (drop t.next t.slots.items) (subst AreFilled e p.full) t.full).1
    ∙ ap (λ z. filled (drop t.next t.slots.items) ++ take 1 (filled z)) (sym e)

pub returns-clause-left : goal.returns-clause-left
returns-clause-left g c = let p = c.args.self.now in let xs = p.slots.items in let slot = c.in-Some.slot.now in
    let lt : p.next < length xs = let n = length-drop p.next xs in omega (arith, n, p.full, c.requires.some) in
    let e : drop p.next xs ≡ slot ∷ drop (p.next + 1) xs = rw add-one (drop-cons xs p.next slot lt ∙ ap (λ x. x ∷ drop (suc p.next) xs) (sym c.in-Some.ensures.value)) in
    ap filled (drop-set-lt (p.next + 1) xs p.next c.take.new.self (omega arith)) ∙ rest-filled slot (drop (p.next + 1) xs) (subst AreFilled e p.full) ∙ ap (λ z. drop 1 (filled z)) (sym e)

pub unreachable-requires : goal.unreachable-requires
unreachable-requires g c = let p = c.args.self.now in let n = length-drop p.next p.slots.items in
    absurd (false≢true (c.in_default.ensures.variant.1 (omega (arith, n, p.full, c.requires.some, p.slots.ok.0))))

pub push_reserved-requires : goal.push_reserved-requires
push_reserved-requires g c = omega (arith, c.requires.room, c.args.to.now.slots.ok.0)

pub returns-clause-left_room : goal.returns-clause-left_room
returns-clause-left_room g c = let more = ap length c.push_reserved.ensures.items ∙ length-append c.args.to.now.slots.items (c.take.result ∷ []) in
    λ k room. omega (arith, room, more, c.push_reserved.ensures.capacity)
