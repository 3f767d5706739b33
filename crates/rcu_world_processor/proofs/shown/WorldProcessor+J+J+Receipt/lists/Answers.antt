use Rattle.std.proofs.Common.{◌≡◌, ◌∙◌, length, refl, sym}
use Rattle.std.proofs.lemmas.List.{length-map}
use Rattle.rcu_lists.specs.Bypasses.{bypass_items}
use Rattle.rcu_world_processor.specs.Batches.{bypassed}
use Rattle.rcu_world_processor.specs.Waits.{call}
use Rattle.rcu_world_processor.proofs.Sizes.{bypass_fits}
use Rattle.rcu_world_processor.proofs.shown.WorldProcessor+J+J+Receipt.lists.Goals as goal

pub len-requires : goal.len-requires
len-requires g c = bypass_fits g.row.J g.row.J-Receipt assumption

pub returns : goal.returns
returns g c = let k = g.J.Job.key_of in let b = c.args.self.now.bypass in
    let e : c.len.result ≡ length (bypassed k b) = c.len.ensures ∙ sym (length-map (bypass_items b) (call k)) in
    rw (e, c.lengths_of.ensures, c.numbers_of.ensures) refl
