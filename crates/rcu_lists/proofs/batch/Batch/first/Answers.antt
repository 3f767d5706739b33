use Rattle.std.proofs.Common.{◌≡◌, ◌∷◌, List, MatchOption, subst}
use Rattle.rcu_jobs.specs.declared.callback.Callback.{Callback}
use Rattle.rcu_lists.specs.Batches.{batch_items}
use Rattle.rcu_lists.proofs.Fills.{first-looked, none-looked}
use Rattle.rcu_lists.proofs.batch.Batch.first.Goals as goal

pub returns-in_default : goal.returns-in_default
returns-in_default g c = let b = c.args.self.now in none-looked b.next b.slots.items c.deref.result.now c.deref.ensures c.in_default.ensures.lookup.0

pub unreachable-requires : goal.unreachable-requires
unreachable-requires g c = let b = c.args.self.now in let l = c.in-Some.ensures.lookup in
    subst (λ p. MatchOption p ⊥ (λ x. (ys : List (Callback g.row.J.Denot)) × (batch_items b ≡ x ∷ ys))) c.in-None.is
    (first-looked b.next b.slots.items c.deref.result.now c.in-Some.slot.now c.deref.ensures l.0 l.1 b.full)

pub returns : goal.returns
returns g c = let b = c.args.self.now in let l = c.in-Some.ensures.lookup in
    subst (λ p. MatchOption p ⊥ (λ x. (ys : List (Callback g.row.J.Denot)) × (batch_items b ≡ x ∷ ys))) c.in-Some-slot.is
    (first-looked b.next b.slots.items c.deref.result.now c.in-Some.slot.now c.deref.ensures l.0 l.1 b.full)
