use Rattle.std.proofs.Common.{◌≡◌, ◌&&◌, ◌∙◌, not, false, true, ap, sym}
use denote.Param.{param}
use Rattle.rcu_world_law.specs.States.{cpu_at, owes}
use Rattle.rcu_world.specs.Views.{state}
use Rattle.rcu_world.proofs.Sizes.{processor_fits, second_fails}
use Rattle.rcu_world.proofs.Leading.{seen_there}
use Rattle.rcu_world.proofs.Meeting.{and_true}
use Rattle.rcu_world.proofs.board_events.Core+J+J+Receipt.waits_for.Goals as goal

pub returns-then-is_away : goal.returns-then-is_away
returns-then-is_away g c =
    let w = state g.J.Job.key_of c.args.self.now in
    let a : (cpu_at w c.args.place).away ≡ true = ap (λ x. x.away) (sym (seen_there g.J.Job.key_of c.args.self.now c.args.place c.index.result.now c.requires c.index.ensures)) ∙ sym c.is_away.ensures ∙ c.if-is_away.true in
    sym (second_fails (owes w c.args.place) (not (cpu_at w c.args.place).away) (ap not a))

pub returns : goal.returns
returns g c =
    let w = state g.J.Job.key_of c.args.self.now in
    let a : (cpu_at w c.args.place).away ≡ false = ap (λ x. x.away) (sym (seen_there g.J.Job.key_of c.args.self.now c.args.place c.index.result.now c.requires c.index.ensures)) ∙ sym c.is_away.ensures ∙ c.if-is_away.false in
    c.owes.ensures ∙ sym (and_true (owes w c.args.place) (not (cpu_at w c.args.place).away) (ap not a))

pub is_away-requires-send-J : goal.is_away-requires-send-J
is_away-requires-send-J g c κs within = c.type_bounds.send-J

pub is_away-requires-send-J-Receipt : goal.is_away-requires-send-J-Receipt
is_away-requires-send-J-Receipt g c κs within = c.type_bounds.send-J-Receipt

pub is_away-requires-after_bounds : goal.is_away-requires-after_bounds
is_away-requires-after_bounds g c κs within = processor_fits (param 0 g.row.J) (param 1 g.row.J-Receipt) assumption
