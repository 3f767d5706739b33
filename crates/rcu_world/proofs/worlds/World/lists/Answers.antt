use Rattle.std.proofs.Common.{◌∙◌, ◌<◌, ap, subst}
use Rattle.std.proofs.lemmas.List.{length-map}
use Rattle.rcu_world_processor.specs.Shown.{cpu_lists}
use Rattle.rcu_world_processor.specs.Views.{seen}
use Rattle.rcu_world.proofs.Leading.{seen_there}
use denote.Param.{param}
use Rattle.rcu_world.proofs.Fitting.{fits_there}
use Rattle.rcu_world.proofs.Places.{in_vec}
use Rattle.rcu_world.proofs.worlds.World.lists.Goals as goal

pub lists-requires-send-J : goal.lists-requires-send-J
lists-requires-send-J g c κs within = c.type_bounds.send-J

pub lists-requires-send-J-Receipt : goal.lists-requires-send-J-Receipt
lists-requires-send-J-Receipt g c κs within = c.type_bounds.send-J-Receipt

pub lists-requires-after_bounds : goal.lists-requires-after_bounds
lists-requires-after_bounds g c κs within = fits_there (param 0 g.row.J) (param 1 g.row.J-Receipt) assumption

pub returns : goal.returns
returns g c = c.lists.ensures ∙ ap cpu_lists (seen_there g.J.Job.key_of c.args.self.now.core c.args.cpu c.index.result.now
    (subst (λ n. c.args.cpu < n) (length-map c.args.self.now.core.processors.items (seen g.J.Job.key_of)) c.requires) c.index.ensures)

pub index-requires : goal.index-requires
index-requires g c = in_vec _ _ _ _ c.requires (length-map c.args.self.now.core.processors.items (seen g.J.Job.key_of)) c.args.self.now.core.processors.ok.0
