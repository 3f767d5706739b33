use Rattle.std.proofs.Common.{◌≡◌, ℕ, List, get_or, arith, rules}
use Rattle.rcu_world_law.specs.declared.marks.Mark.{Mark}
use Rattle.rcu_world_law.specs.declared.marks.Mark.TheVariants.{Accepted, Reported}
use Rattle.rcu_agreement_checker.proofs.Listing.{report_of_other, report_of_own, reports_more}
use Rattle.rcu_agreement_checker.proofs.lists.many_reports.Goals as goal
use Rattle.rcu_agreement_checker.proofs.lists.many_reports.Goals.{then-eq, else-eq}

pub loop-mark-preserved : goal.loop-mark-preserved
loop-mark-preserved c =
    let h : List Mark = c.args.history.now in
    let i : ℕ = c.loop-mark.mark-index in
    let more = reports_more c.args.q h i (Accepted 0 0) c.loop-mark-test.true in
    elim c.if-eq.branch [
      | then-eq w ↦
          let same : get_or h i (Accepted 0 0) ≡ Reported c.args.q = search rules in
          let one = report_of_own c.args.q (get_or h i (Accepted 0 0)) same in
          record { many = omega (arith, w.many-is, c.loop-mark.invariant.many); few = omega (arith, w.many-is, c.loop-mark.invariant.few) }
      | else-eq w ↦
          let other : (get_or h i (Accepted 0 0) ≡ Reported c.args.q) → ⊥ = search rules in
          let none = report_of_other c.args.q (get_or h i (Accepted 0 0)) other in
          record { many = omega (arith, w.many-is, c.loop-mark.invariant.many); few = omega (arith, w.many-is, c.loop-mark.invariant.few) }
    ]
