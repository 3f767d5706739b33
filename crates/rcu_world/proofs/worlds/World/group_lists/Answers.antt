use Rattle.std.proofs.Common.{◌∙◌, ◌<◌, ◌&&◌, ap, arith, cond, false, get_or, length, None, Some, sym}
use Rattle.rcu_world_law.specs.States.{cpu_at}
use Rattle.rcu_world_processor.specs.Shown.{folk_lists}
use Rattle.rcu_world.specs.Views.{state}
use Rattle.rcu_world.proofs.Entering.{not_there}
use Rattle.rcu_world.proofs.Leading.{seen_there}
use Rattle.rcu_world.proofs.Seen.{has_at}
use denote.Param.{param}
use Rattle.rcu_world.proofs.Fitting.{fits_there}
use Rattle.rcu_world.proofs.worlds.World.group_lists.Goals as goal

pub group_lists-requires-send-J : goal.group_lists-requires-send-J
group_lists-requires-send-J g c κs within = c.type_bounds.send-J

pub group_lists-requires-send-J-Receipt : goal.group_lists-requires-send-J-Receipt
group_lists-requires-send-J-Receipt g c κs within = c.type_bounds.send-J-Receipt

pub group_lists-requires-after_bounds : goal.group_lists-requires-after_bounds
group_lists-requires-after_bounds g c κs within = fits_there (param 0 g.row.J) (param 1 g.row.J-Receipt) assumption

pub returns : goal.returns
returns g c =
    let l : c.args.cpu < length c.args.self.now.core.processors.items = omega arith in
    ap Some (c.group_lists.ensures ∙ ap folk_lists (seen_there g.J.Job.key_of c.args.self.now.core c.args.cpu c.index.result.now l c.index.ensures))
    ∙ sym (ap (λ b. cond b (Some (folk_lists (cpu_at (state g.J.Job.key_of c.args.self.now.core) c.args.cpu))) None)
    (ap (λ b. b && get_or c.args.self.now.core.offloadable.items c.args.cpu false) (has_at g.J.Job.key_of c.args.self.now.core c.args.cpu l) ∙ sym c.is_set.ensures ∙ c.if-not-is_set.false))

pub returns-then-i-len : goal.returns-then-i-len
returns-then-i-len g c = sym (ap (λ b. cond b (Some (folk_lists (cpu_at (state g.J.Job.key_of c.args.self.now.core) c.args.cpu))) None)
    (ap (λ b. b && get_or c.args.self.now.core.offloadable.items c.args.cpu false) (not_there g.J.Job.key_of c.args.self.now.core c.args.cpu (omega arith))))

pub returns-then-not-is_set : goal.returns-then-not-is_set
returns-then-not-is_set g c =
    let l : c.args.cpu < length c.args.self.now.core.processors.items = omega arith in
    sym (ap (λ b. cond b (Some (folk_lists (cpu_at (state g.J.Job.key_of c.args.self.now.core) c.args.cpu))) None)
    (ap (λ b. b && get_or c.args.self.now.core.offloadable.items c.args.cpu false) (has_at g.J.Job.key_of c.args.self.now.core c.args.cpu l) ∙ sym c.is_set.ensures ∙ c.if-not-is_set.true))
