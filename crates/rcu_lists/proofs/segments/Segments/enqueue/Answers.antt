use Rattle.std.proofs.Common.{◌∙◌, ap, arith, sym, subst, length, length-append, [], ◌∷◌, refl}
use Rattle.rcu_lists.specs.Cut.{cut}
use Rattle.rcu_lists.specs.Labels.{IsGraced}
use Rattle.rcu_lists.proofs.Stamps.{stamps-push}
use Rattle.rcu_lists.proofs.Cuts.{cut-push}
use Rattle.rcu_lists.proofs.Graced.{graced-push}
use Rattle.rcu_lists.proofs.segments.Segments.enqueue.Goals as goal

pub invariant_of-self-clause-stamps : goal.invariant_of-self-clause-stamps
invariant_of-self-clause-stamps g c = let s = c.args.self.now in λ e. let k = c.keeps_order-self.ensures in
    rw c.push_back_reserved.ensures.items (stamps-push 0 s.list.items c.args.callback (k.order e) (omega arith) (k.last e))

pub invariant_of-self-clause-graced : goal.invariant_of-self-clause-graced
invariant_of-self-clause-graced g c = let s = c.args.self.now in
    subst (IsGraced s.bounds.advanced) (sym (ap (cut s.bounds.done s.bounds.wait s.bounds.ready s.bounds.wait_number s.bounds.ready_number) c.push_back_reserved.ensures.items ∙ cut-push s.bounds.wait_number s.bounds.ready_number s.bounds.done s.bounds.wait s.bounds.ready s.list.items c.args.callback s.within))
    (graced-push s.bounds.advanced _ c.args.callback s.graced)

pub returns-clause-list : goal.returns-clause-list
returns-clause-list g c = let s = c.args.self.now in ap (cut s.bounds.done s.bounds.wait s.bounds.ready s.bounds.wait_number s.bounds.ready_number) c.push_back_reserved.ensures.items ∙ cut-push s.bounds.wait_number s.bounds.ready_number s.bounds.done s.bounds.wait s.bounds.ready s.list.items c.args.callback s.within

pub push_back_reserved-requires : goal.push_back_reserved-requires
push_back_reserved-requires g c = omega (arith, c.requires, c.args.self.now.list.ok.0)

pub invariant_of-self-clause-within : goal.invariant_of-self-clause-within
invariant_of-self-clause-within g c = let s = c.args.self.now in
    let more = ap length c.push_back_reserved.ensures.items ∙ length-append s.list.items (c.args.callback ∷ []) in
    omega (arith, more, s.within)

pub returns-clause-advanced : goal.returns-clause-advanced
returns-clause-advanced g c = refl

pub returns-clause-room : goal.returns-clause-room
returns-clause-room g c = let more = ap length c.push_back_reserved.ensures.items ∙ length-append c.args.self.now.list.items (c.args.callback ∷ []) in
    λ k room. omega (arith, room, more, c.push_back_reserved.ensures.capacity)
