use Rattle.std.proofs.Common.{◌≡◌, ◌≤◌, ◌+◌, ◌-◌, ◌*◌, ◌∙◌, ℕ, suc, ap, arith, refl, subst}
use Rattle.std.proofs.Math.Nat.{mul-suc}
use Rattle.rcu_board.specs.declared.board.Role.{Role}
use Rattle.bench_board.specs.Stays.{HasStepped}
use Rattle.bench_board.proofs.measure.repeat.Goals as goal

-- the steps of one round more
one_more : (steps from number : ℕ) → from ≤ number → steps * (number + 1 - from) ≡ steps * (number - from) + steps
one_more steps from number rises = ap (λ (k : ℕ). steps * k) (let next : number + 1 - from ≡ suc (number - from) = omega arith in next) ∙ mul-suc steps (number - from)

pub loop-number-preserved : goal.loop-number-preserved
loop-number-preserved g c = let l = c.loop-number in let before = l.invariant in let after = c.step.ensures.same in record {
  board = after.table ∙ before.board;
  same = record { role = after.role ∙ before.same.role; table = after.table ∙ before.same.table; weight = after.weight ∙ before.same.weight };
  ready = c.if-not-step.ensures.ready refl;
  made =
      let stepped = subst (λ (r : Role). HasStepped (g.K.Kind.word c.args.board.now r) g.K.Kind.steps l.seat c.step.new.seat) before.same.role (c.if-not-step.ensures.made refl) in
      let more = one_more g.K.Kind.steps c.args.from l.number l.auto.number in
      omega (arith, stepped, before.made, more);
}
