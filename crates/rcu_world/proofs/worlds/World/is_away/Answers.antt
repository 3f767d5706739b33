use Rattle.std.proofs.Common.{◌∙◌, ap, arith, sym}
use Rattle.std.proofs.lemmas.List.{get_or_past, length-map}
use denote.Param.{param}
use Rattle.rcu_world_law.specs.States.{empty_cpu}
use Rattle.rcu_world_processor.specs.Views.{seen}
use Rattle.rcu_world.specs.Views.{all_seen}
use Rattle.rcu_world.proofs.Fitting.{fits_there}
use Rattle.rcu_world.proofs.Leading.{seen_there}
use Rattle.rcu_world.proofs.worlds.World.is_away.Goals as goal

pub returns-then-i-len : goal.returns-then-i-len
returns-then-i-len g c = sym (ap (λ x. x.away) (get_or_past (all_seen g.J.Job.key_of c.args.self.now.core.processors.items) c.args.cpu empty_cpu
    (omega (arith, length-map c.args.self.now.core.processors.items (seen g.J.Job.key_of), c.args.self.now.core.processors.ok.0))))

pub returns : goal.returns
returns g c = c.is_away.ensures ∙ ap (λ x. x.away) (seen_there g.J.Job.key_of c.args.self.now.core c.args.cpu c.index.result.now (omega (arith, c.args.self.now.core.processors.ok.0)) c.index.ensures)

pub is_away-requires-send-J : goal.is_away-requires-send-J
is_away-requires-send-J g c κs within = c.type_bounds.send-J

pub is_away-requires-send-J-Receipt : goal.is_away-requires-send-J-Receipt
is_away-requires-send-J-Receipt g c κs within = c.type_bounds.send-J-Receipt

pub is_away-requires-after_bounds : goal.is_away-requires-after_bounds
is_away-requires-after_bounds g c κs within = fits_there (param 0 g.row.J) (param 1 g.row.J-Receipt) assumption
