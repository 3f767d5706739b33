use Rattle.std.proofs.Common.{◌≡◌, ◌∙◌, ◌-◌, ap, Option, length, arith}
use Rattle.std.proofs.lemmas.Result.{IfOk-weaker}
use Rattle.rcu_part_close.specs.Ends.{HasRoom}
use Rattle.rcu_part_close.specs.Parts.{HandPart, hand_kept, hand_taken}
use Rattle.rcu_parts.specs.AtClose.{cpu_part}
use Rattle.rcu_parts.specs.Rooms.{FitsCpu}
use Rattle.rcu_parts.proofs.Resting.{fits_cpu}
use Rattle.rcu_parts.proofs.room.find_end.Goals as goal

pub returns : goal.returns
returns g c = IfOk-weaker c.with_room.result (λ room. HasRoom c.in-Some-checked_add.records c.saturating_sub-jobs.result room)
    (λ room. (hand : Option (HandPart g.row.J.Denot g.row.J-Receipt.Denot)) → length (hand_kept hand) ≡ c.args.left → length (hand_taken hand) ≡ c.args.ran → FitsCpu (cpu_part c.args.processor.now hand) room)
    (λ room has hand left taken. fits_cpu c.args.processor.now hand c.args.ran c.args.left c.in-Some.all c.in-Some-checked_add.records c.saturating_sub-jobs.result room (let a = c.in-Some.ensures.1 in let b = c.ran.ensures in omega (arith, a, b)) (let a = c.in-Some-checked_add.ensures.1 in let b = c.records_left.ensures in omega (arith, a, b)) (c.saturating_sub-jobs.ensures ∙ ap (λ n. n - c.in-Some.all) c.accepted.ensures) has left taken) c.with_room.ensures

pub ran-requires : goal.ran-requires
ran-requires g c = assumption

pub accepted-requires : goal.accepted-requires
accepted-requires g c = assumption

pub records_left-requires : goal.records_left-requires
records_left-requires g c = assumption
