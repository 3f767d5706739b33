use Rattle.std.proofs.Common.{◌∙◌, ap}
use Rattle.rcu_lists.specs.Stamps.{newer_of, newest_of}
use Rattle.rcu_lists.proofs.Fills.{filled-rest}
use Rattle.rcu_lists.proofs.parcel.Places.newer_than.Goals as goal

pub returns : goal.returns
returns g c = let p = c.args.self.now in
    c.newer_than.ensures ∙ ap (λ cs. newer_of c.args.stamp (newest_of cs)) (filled-rest p.next p.slots.items c.deref.result.now c.deref.ensures.value)
