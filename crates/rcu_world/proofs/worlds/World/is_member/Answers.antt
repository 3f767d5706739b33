use Rattle.std.proofs.Common.{◌∙◌, ◌<◌, ◌&&◌, ◌==◌, ◌/◌, ap, false, get_or, length, subst, sym}
use Rattle.std.proofs.lemmas.List.{length-map}
use Rattle.rcu_world_processor.specs.Views.{seen}
use Rattle.rcu_world.proofs.Seen.{has_at}
use Rattle.rcu_world.proofs.worlds.World.is_member.Goals as goal

pub returns : goal.returns
returns g c =
    let l : c.args.cpu < length c.args.self.now.core.processors.items = subst (λ n. c.args.cpu < n) (length-map c.args.self.now.core.processors.items (seen g.J.Job.key_of)) c.requires.there in
    c.is_member_of.ensures
    ∙ sym (ap (λ b. (b && get_or c.args.self.now.core.offloadable.items c.args.cpu false) && (c.args.cpu / c.args.self.now.core.stride == c.args.group)) (has_at g.J.Job.key_of c.args.self.now.core c.args.cpu l))
