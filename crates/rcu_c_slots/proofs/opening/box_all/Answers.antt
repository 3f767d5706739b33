use Rattle.rcu_lists.proofs.Outcomes.{if_ok_never}
use Rattle.rcu_c_slots.proofs.opening.box_all.Goals as goal

pub returns-in_err-box_processors : goal.returns-in_err-box_processors
returns-in_err-box_processors c = if_ok_never _ _ c.from_residual.ensures

pub returns-in_err-box_groups : goal.returns-in_err-box_groups
returns-in_err-box_groups c = if_ok_never _ _ c.from_residual-in_err-box_groups.ensures

pub returns-in_err-box_hands : goal.returns-in_err-box_hands
returns-in_err-box_hands c = if_ok_never _ _ c.from_residual-in_err-box_hands.ensures

pub returns-in_err-box_part : goal.returns-in_err-box_part
returns-in_err-box_part c = if_ok_never _ _ c.from_residual-in_err-box_part.ensures

pub returns-in_err-box_part-2 : goal.returns-in_err-box_part-2
returns-in_err-box_part-2 c = if_ok_never _ _ c.from_residual-in_err-box_part-2.ensures
