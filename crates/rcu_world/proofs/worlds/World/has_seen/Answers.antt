use Rattle.std.proofs.Common.{◌∙◌, ap, arith, false, get_or, refl, sym}
use Rattle.std.proofs.lemmas.List.{get_or_past, length-map}
use Rattle.rcu_world_law.specs.States.{Barrier, no_barrier}
use Rattle.rcu_world.specs.Barrings.{barrier}
use Rattle.rcu_world.proofs.Seen.{barrier_seen}
use Rattle.rcu_world.specs.declared.barriers.Barring.{Barring}
use Rattle.rcu_world.proofs.worlds.World.has_seen.Goals as goal

pub returns-then-j-len : goal.returns-then-j-len
returns-then-j-len g c = sym (ap {A = Barrier} (λ x. get_or x.seen c.args.cpu false)
    (get_or_past _ c.args.barrier no_barrier (omega (arith, length-map c.args.self.now.core.barriers.items barrier, c.args.self.now.core.barriers.ok.0))))

pub returns : goal.returns
returns g c =
    let b : Barring = c.index.result.now in
    c.has_seen.ensures ∙ ap {A = Barrier} (λ x. get_or x.seen c.args.cpu false) (barrier_seen g.J.Job.key_of c.args.self.now.core c.args.barrier b b (λ x. x) (omega (arith, c.args.self.now.core.barriers.ok.0)) c.index.ensures refl).0
