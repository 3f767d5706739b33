use Rattle.std.proofs.Common.{◌≡◌, List, ◌∷◌, ◌++◌, [], ℕ, get_or, ap, sym, ◌∙◌, arith}
use Rattle.std.proofs.lemmas.Option.{slice_get-get_or}
use Rattle.rcu_world_law.specs.declared.marks.Mark.{Mark}
use Rattle.rcu_world_law.specs.declared.marks.Mark.TheVariants.{Accepted}
use Rattle.rcu_world_checker.specs.Kinds.{in_list, key_in}
use Rattle.rcu_agreement_checker.proofs.Listing.{goes_on, next_is}
use Rattle.rcu_agreement_checker.proofs.lists.has_keys.Goals as goal
use Rattle.rcu_agreement_checker.proofs.lists.has_keys.Goals.{then-met-wanted-via-then-met-wanted, then-met-wanted-via-else-met-wanted+then-wanted-met}

pub returns-then-met-wanted : goal.returns-then-met-wanted
returns-then-met-wanted c = (
  λ e. absurd cc,
  λ same.
      let h : List Mark = c.args.history.now in
      let i : ℕ = c.loop-mark.mark-index in
      let mark : Mark = get_or h i (Accepted 0 0) in
      let gives : key_in c.args.kind c.args.p mark ≡ c.in-Some.key ∷ [] = c.key_of.ensures ∙ ap in_list c.in-Some.is in
      let g = goes_on c.args.kind c.args.p h i mark c.in-Some.key (slice_get-get_or h i (Accepted 0 0) c.loop-mark-test.true) gives in
      let n = next_is c.loop-mark.met c.args.wanted.now g.0 c.in-Some.key 0 c.loop-mark.invariant.within (ap (λ x. x ++ (c.in-Some.key ∷ g.0)) (sym c.loop-mark.invariant.front) ∙ sym g.1 ∙ same) in
      absurd (elim c.then-met-wanted.branch [
        | then-met-wanted-via-then-met-wanted w ↦ omega (arith, n.0, w.if-met-wanted.true)
        | then-met-wanted-via-else-met-wanted+then-wanted-met w ↦ w.if-wanted-met.true n.1
      ]),
)
