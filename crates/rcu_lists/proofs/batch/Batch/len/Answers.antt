use Rattle.std.proofs.Common.{◌-◌, ◌∙◌, ap, sym, length-drop}
use Rattle.rcu_lists.proofs.batch.Batch.len.Goals as goal

pub returns : goal.returns
returns g c = let b = c.args.self.now in sym (b.full ∙ length-drop b.next b.slots.items ∙ ap (λ n. n - b.next) (sym c.len.ensures.value))
