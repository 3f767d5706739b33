use Rattle.std.proofs.Common.{◌≡◌, ◌<◌, ◌∙◌, inl, inr, false, length, arith, ap, subst, sym}
use Rattle.std.proofs.lemmas.Bool.{cases_lt}
use Rattle.std.proofs.lemmas.List.{length-map}
use Rattle.rcu_world_processor.specs.Views.{seen}
use Rattle.rcu_world.specs.Boards.{first_of}
use Rattle.rcu_world.specs.Turns.{waits_for}
use Rattle.rcu_world.specs.Views.{state}
use Rattle.rcu_world.proofs.FirstOf.{first_is, first_none}
use Rattle.rcu_world.proofs.board_events.Core+J+J+Receipt.first_waited.Goals as goal

pub loop-cpu-init : goal.loop-cpu-init
loop-cpu-init g c = λ q l. absurd (omega arith)

pub loop-cpu-preserved : goal.loop-cpu-preserved
loop-cpu-preserved g c =
    let w = state g.J.Job.key_of c.args.self.now in
    λ q l. elim (cases_lt q c.loop-cpu.cpu) [
      | inl below ↦ c.loop-cpu.invariant q below
      | inr past ↦ subst (λ x. waits_for w x ≡ false) (let e : c.loop-cpu.cpu ≡ q = omega arith in e) (sym c.waits_for.ensures ∙ c.if-waits_for.false)
    ]

pub returns-then-waits_for : goal.returns-then-waits_for
returns-then-waits_for g c =
    let w = state g.J.Job.key_of c.args.self.now in
    let l : c.loop-cpu.cpu < length w.cpus = omega (arith, length-map c.args.self.now.processors.items (seen g.J.Job.key_of), c.args.self.now.processors.ok.0) in
    first_is (waits_for w) (length w.cpus) c.loop-cpu.cpu l c.loop-cpu.invariant (sym c.waits_for.ensures ∙ c.if-waits_for.true)

pub returns : goal.returns
returns g c =
    let w = state g.J.Job.key_of c.args.self.now in
    let e : c.loop-cpu.cpu ≡ length w.cpus = omega (arith, length-map c.args.self.now.processors.items (seen g.J.Job.key_of), c.args.self.now.processors.ok.0) in
    let n : length w.cpus ≡ first_of (waits_for w) (length w.cpus) = first_none (waits_for w) (length w.cpus) (λ q l. c.loop-cpu.invariant q (omega (arith, l, e))) in
    omega (arith, n, length-map c.args.self.now.processors.items (seen g.J.Job.key_of), c.args.self.now.processors.ok.0)

pub waits_for-requires-send-J : goal.waits_for-requires-send-J
waits_for-requires-send-J g c κs within = c.type_bounds.send-J

pub waits_for-requires-send-J-Receipt : goal.waits_for-requires-send-J-Receipt
waits_for-requires-send-J-Receipt g c κs within = c.type_bounds.send-J-Receipt

pub waits_for-requires-after_bounds : goal.waits_for-requires-after_bounds
waits_for-requires-after_bounds g c κs within = (assumption, omega (arith, c.args.self.now.processors.ok.0))
