use Rattle.std.proofs.Common.{◌∙◌, sym}
use Rattle.std.proofs.lemmas.List.{length-map}
use Rattle.rcu_world_processor.specs.Views.{seen}
use Rattle.rcu_world.proofs.worlds.World.processors.Goals as goal

pub returns : goal.returns
returns g c = c.len.ensures ∙ c.args.self.now.core.processors.ok.0 ∙ sym (length-map c.args.self.now.core.processors.items (seen g.J.Job.key_of))
