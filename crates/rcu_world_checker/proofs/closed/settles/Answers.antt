use Rattle.std.proofs.Common.{refl}
use Rattle.rcu_world_law.specs.declared.marks.Mark.TheVariants.{Accepted, Back}
use Rattle.rcu_world_checker.proofs.Deciding.{found_at, settles_by, settles_other, stands_at}
use Rattle.rcu_world_checker.proofs.closed.settles.Goals as goal

pub returns-in-Accepted : goal.returns-in-Accepted
returns-in-Accepted c =
    let m = Accepted c.in-Accepted.p c.in-Accepted.field-1 in
    let stands = stands_at c.args.history.now c.args.place (Accepted 0 0) m c.requires.place c.in-Accepted.is in
    (λ e. settles_by c.args.history.now c.args.place m stands (c.is_accounted.ensures.0 e), λ s. c.is_accounted.ensures.1 (s.is m stands))

pub returns-in-Back : goal.returns-in-Back
returns-in-Back c =
    let m = Back c.in-Back.p c.in-Back.key in
    let stands = stands_at c.args.history.now c.args.place (Accepted 0 0) m c.requires.place c.in-Back.is in
    (λ e. settles_by c.args.history.now c.args.place m stands (c.is_returned.ensures.0 e), λ s. c.is_returned.ensures.1 (s.is m stands))

pub returns-in_default : goal.returns-in_default
returns-in_default c = (
  λ e. settles_other c.args.history.now c.args.place
      (λ p key s. c.in_default.not-Accepted p key (found_at c.args.history.now c.args.place (Accepted 0 0) (Accepted p key) s))
      (λ p key s. c.in_default.not-Back p key (found_at c.args.history.now c.args.place (Accepted 0 0) (Back p key) s)),
  λ s. refl,
)
