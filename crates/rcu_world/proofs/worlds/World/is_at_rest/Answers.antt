use Rattle.std.proofs.Common.{◌≡◌, ◌∙◌, arith, inl, inr, refl, subst, sym}
use Rattle.std.proofs.lemmas.Bool.{cases_lt}
use Rattle.std.proofs.lemmas.List.{get_or_past, length-map}
use denote.Param.{param}
use Rattle.rcu_world_law.specs.States.{cpu_at, empty_cpu}
use Rattle.rcu_world_processor.specs.Views.{seen}
use Rattle.rcu_world.specs.Turns.{IsIdle}
use Rattle.rcu_world.specs.Views.{all_seen, state}
use Rattle.rcu_world.proofs.Fitting.{fits_there}
use Rattle.rcu_world.proofs.Seen.{seen_at}
use Rattle.rcu_world.proofs.Sizes.{never}
use Rattle.rcu_world.proofs.worlds.World.is_at_rest.Goals as goal

pub loop-cpu-preserved : goal.loop-cpu-preserved
loop-cpu-preserved g c =
    let w = state g.J.Job.key_of c.args.self.now.core in
    λ p l. elim (cases_lt p c.loop-cpu.cpu) [
      | inl below ↦ c.loop-cpu.invariant p below
      | inr past ↦ subst (λ x. IsIdle (cpu_at w x)) (let e : c.loop-cpu.cpu ≡ p = omega arith in e)
          (subst IsIdle (seen_at g.J.Job.key_of c.args.self.now.core.processors.items c.loop-cpu.cpu c.index.result.now (omega arith) c.index.ensures) (c.is_idle.ensures.0 c.if-not-is_idle.false))
    ]

pub returns-then-not-is_idle : goal.returns-then-not-is_idle
returns-then-not-is_idle g c = (
  λ e. never e,
  λ r. sym c.if-not-is_idle.true
      ∙ c.is_idle.ensures.1 (subst IsIdle (sym (seen_at g.J.Job.key_of c.args.self.now.core.processors.items c.loop-cpu.cpu c.index.result.now (omega arith) c.index.ensures)) (r.each c.loop-cpu.cpu)),
)

pub returns : goal.returns
returns g c = (
  λ e. record {
    each = λ p. elim (cases_lt p c.loop-cpu.cpu) [
      | inl below ↦ c.loop-cpu.invariant p below
      | inr past ↦ subst IsIdle (sym (get_or_past (all_seen g.J.Job.key_of c.args.self.now.core.processors.items) p empty_cpu (omega (arith, length-map c.args.self.now.core.processors.items (seen g.J.Job.key_of)))))
          (record { fresh = refl; running = refl })
    ];
  },
  λ r. refl,
)

pub loop-cpu-init : goal.loop-cpu-init
loop-cpu-init g c = λ p l. absurd (omega arith)

pub is_idle-requires-send-J : goal.is_idle-requires-send-J
is_idle-requires-send-J g c κs within = c.type_bounds.send-J

pub is_idle-requires-send-J-Receipt : goal.is_idle-requires-send-J-Receipt
is_idle-requires-send-J-Receipt g c κs within = c.type_bounds.send-J-Receipt

pub is_idle-requires-after_bounds : goal.is_idle-requires-after_bounds
is_idle-requires-after_bounds g c κs within = fits_there (param 0 g.row.J) (param 1 g.row.J-Receipt) assumption
