use Rattle.std.proofs.Common.{◌≡◌, [], ◌≤◌, ◌<◌, ◌∙◌, length, arith, refl, sym, subst, get_or, ◌-◌}
use Rattle.std.proofs.lemmas.Bool.{leb-true, false≢true}
use Rattle.rcu_lists.proofs.Blocks.{nothing-left}
use Rattle.rcu_lists.proofs.Stamps.{newest-all, newest-back}
use Rattle.rcu_lists.proofs.segments.Segments.keeps_order.Goals as goal

pub returns-then-self-clause-last : goal.returns-then-self-clause-last
returns-then-self-clause-last g c = let s = c.args.self.now in λ e.
    let some : 0 < length s.list.items = c.in-Some.ensures.item.3.0 in
    let last = subst (λ n. c.in-Some.last.now ≡ get_or s.list.items (n - 1) c.in-Some.last.now) s.list.ok.0 c.in-Some.ensures.lookup in
    let le = leb-true c.in-Some.last.now.stamp c.args.stamp e in
    newest-all (λ n. n ≤ c.args.stamp) (λ a b le h. omega arith) s.list.items
    (rw (newest-back s.list.items c.in-Some.last.now (s.stamps c.if-self.true) some last) le)

pub returns-in-None-clause-order : goal.returns-in-None-clause-order
returns-in-None-clause-order g c = λ _. let list = c.args.self.now.list in let none : 0 < list.len → ⊥ = λ lt. false≢true (c.in-None.ensures.variant.1 lt) in
    let all : list.items ≡ [] = nothing-left list.items (omega (arith, none, list.ok.0)) refl in rw all refl

pub returns-in-None-clause-last : goal.returns-in-None-clause-last
returns-in-None-clause-last g c = λ _ k d lt. absurd (false≢true (c.in-None.ensures.variant.1 (omega (arith, lt, c.args.self.now.list.ok.0))))

pub returns-then-self-clause-order : goal.returns-then-self-clause-order
returns-then-self-clause-order g c = λ _. c.args.self.now.stamps c.if-self.true

pub returns-else-self-clause-order : goal.returns-else-self-clause-order
returns-else-self-clause-order g c = c.args.self.now.stamps

pub returns-else-self-clause-last : goal.returns-else-self-clause-last
returns-else-self-clause-last g c = λ e. absurd (false≢true (sym c.if-self.false ∙ e))
