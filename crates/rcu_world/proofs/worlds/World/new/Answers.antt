use Rattle.std.proofs.Common.{sym, subst}
use Rattle.rcu_world.specs.Worlds.{IsFit, plan}
use Rattle.rcu_world.specs.Turns.{IsAtRest}
use Rattle.rcu_world.proofs.Opening.{fit_opening, rest_opening}
use denote.Param.{param}
use Rattle.rcu_world.proofs.Fitting.{core_fits}
use Rattle.rcu_world.proofs.worlds.World.new.Goals as goal

pub returns-clause-kept : goal.returns-clause-kept
returns-clause-kept g c = record {
  fit = subst IsFit (sym c.in_ok-core.ensures.opens) (fit_opening c.args.shape c.args.shape.within);
  given = c.in_ok-core.ensures.given;
}

pub returns-clause-rest : goal.returns-clause-rest
returns-clause-rest g c = subst IsAtRest (sym c.in_ok-core.ensures.opens) (rest_opening c.args.shape.processors (plan c.args.shape))

pub new-requires-send-J : goal.new-requires-send-J
new-requires-send-J g c κs within = c.type_bounds.send-J

pub new-requires-send-J-Receipt : goal.new-requires-send-J-Receipt
new-requires-send-J-Receipt g c κs within = c.type_bounds.send-J-Receipt

pub new-requires-after_bounds : goal.new-requires-after_bounds
new-requires-after_bounds g c κs within = core_fits (param 0 g.row.J) (param 1 g.row.J-Receipt) assumption
