use Rattle.std.proofs.lemmas.Bool.{false≢true}
use Rattle.std.proofs.Common.{◌≡◌, [], ◌++◌, length, drop, ap, sym, ◌∙◌, subst, arith, length-append, zero-le, refl}
use Rattle.std.proofs.lemmas.List.{drop-append-le}
use Rattle.rcu_lists.specs.Filled.{filled, AreFilled}
use Rattle.rcu_lists.proofs.Fills.{both-filled, filled-append}
use Rattle.rcu_lists.proofs.Outcomes.{where_ok}
use Rattle.rcu_lists.proofs.parcel.Places.move_whole.Goals as goal

pub invariant_of-to : goal.invariant_of-to
invariant_of-to g c = let t = c.args.to.now in let xs = t.slots.items in let s = c.args.self.now in let ys = s.slots.items in
    let all : AreFilled ys = subst (λ n. AreFilled (drop n ys)) c.requires.whole s.full in
    let many : length (filled ys) ≡ length (filled (drop s.next ys)) = ap (λ n. length (filled (drop n ys))) (sym c.requires.whole) in
    let fits = c.append.ensures.succeeds (omega (arith, all, many, c.requires.room, t.slots.ok.0, s.slots.ok.0)) in
    let more = where_ok c.append.result (xs ++ ys) xs _ fits c.append.ensures.items in
    let d = ap (drop t.next) more ∙ drop-append-le t.next xs ys t.within in
    record {
      within = rw more (let w = t.within in simp length-append (omega arith));
      full = subst AreFilled (sym d) (both-filled (drop t.next xs) ys t.full all);
    }

pub returns-clause-moved : goal.returns-clause-moved
returns-clause-moved g c = let t = c.args.to.now in let xs = t.slots.items in let ys = c.args.self.now.slots.items in
    ap filled (ap (drop t.next) c.in-Ok.ensures.items ∙ drop-append-le t.next xs ys t.within) ∙ filled-append (drop t.next xs) ys
    ∙ ap (λ n. filled (drop t.next xs) ++ filled (drop n ys)) (sym c.requires.whole)

pub unreachable-requires : goal.unreachable-requires
unreachable-requires g c = let t = c.args.to.now in let s = c.args.self.now in let ys = s.slots.items in
    let all : AreFilled ys = subst (λ n. AreFilled (drop n ys)) c.requires.whole s.full in
    let many : length (filled ys) ≡ length (filled (drop s.next ys)) = ap (λ n. length (filled (drop n ys))) (sym c.requires.whole) in
    absurd (false≢true (c.in_default.ensures.succeeds (omega (arith, all, many, c.requires.room, t.slots.ok.0, s.slots.ok.0))))

pub invariant_of-self : goal.invariant_of-self
invariant_of-self g c = let t = c.args.to.now in let s = c.args.self.now in let ys = s.slots.items in
    let all : AreFilled ys = subst (λ n. AreFilled (drop n ys)) c.requires.whole s.full in
    let many : length (filled ys) ≡ length (filled (drop s.next ys)) = ap (λ n. length (filled (drop n ys))) (sym c.requires.whole) in
    let fits = c.append.ensures.succeeds (omega (arith, all, many, c.requires.room, t.slots.ok.0, s.slots.ok.0)) in
    let none = where_ok c.append.result [] ys _ fits c.append.ensures.other_items in
    record { within = rw c.requires.whole zero-le; full = rw (none, c.requires.whole) refl }

pub returns-clause-left_room : goal.returns-clause-left_room
returns-clause-left_room g c = let s = c.args.self.now in let ys = s.slots.items in
    let all : AreFilled ys = subst (λ n. AreFilled (drop n ys)) c.requires.whole s.full in
    let many : length (filled ys) ≡ length (filled (drop s.next ys)) = ap (λ n. length (filled (drop n ys))) (sym c.requires.whole) in
    let more = ap length c.in-Ok.ensures.items ∙ length-append c.args.to.now.slots.items ys in
    λ k room. omega (arith, room, all, many, more, c.append.ensures.capacity)

pub returns-clause-left : goal.returns-clause-left
returns-clause-left g c = rw (c.in-Ok.ensures.other_items, c.requires.whole) refl
