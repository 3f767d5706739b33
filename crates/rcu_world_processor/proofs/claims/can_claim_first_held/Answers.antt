use Rattle.std.proofs.Common.{◌≡◌, ◌≤◌, ◌∙◌, ◌&&◌, ◌%◌, ap, subst, sym}
use Rattle.std.specs.Prelude.{◌==◌}
use Rattle.rcu_numbers.specs.declared.sequence.TheConstants.{GREATEST_NUMBER}
use Rattle.rcu_world_law.specs.Steps.{can_claim_held, front}
use Rattle.rcu_world_processor.specs.Waits.{call, calls}
use Rattle.rcu_world_processor.proofs.Claiming.{held_even, held_not}
use Rattle.rcu_world_processor.proofs.claims.can_claim_first_held.Goals.{then-is_past, else-is_past}
use Rattle.rcu_world_processor.proofs.claims.can_claim_first_held.Goals as goal

pub first-requires : goal.first-requires
first-requires g c = assumption

pub returns-in_default : goal.returns-in_default
returns-in_default g c = ap (λ cs. can_claim_held c.args.sight (calls g.J.Job.key_of cs) c.args.turn) (sym c.in_default.ensures)

pub is_past-requires : goal.is_past-requires
is_past-requires g c = subst (λ cs. (front (calls g.J.Job.key_of cs)).stamp ≤ GREATEST_NUMBER) c.in-Some.ensures.1 c.requires

pub returns-then-turn-eq0 : goal.returns-then-turn-eq0
returns-then-turn-eq0 g c =
    let k = g.J.Job.key_of in
    let v : (c.is_past.result && (c.args.turn % 2 == 0)) ≡ c.if-is_past.value = elim c.if-is_past.branch [
      | then-is_past w ↦ ap (λ b. b && (c.args.turn % 2 == 0)) w.if-is_past.true ∙ sym w.value-is
      | else-is_past w ↦ ap (λ b. b && (c.args.turn % 2 == 0)) w.if-is_past.false ∙ sym w.if-is_past.false ∙ sym w.value-is
    ] in
    held_even c.args.sight c.args.turn (call k c.in-Some.first.now) (calls k c.in-Some.ensures.0) c.is_past.result c.is_past.ensures (v ∙ c.if-turn-eq0.true)
    ∙ ap (λ cs. can_claim_held c.args.sight (calls k cs) c.args.turn) (sym c.in-Some.ensures.1)

pub returns-else-turn-eq0 : goal.returns-else-turn-eq0
returns-else-turn-eq0 g c =
    let k = g.J.Job.key_of in
    let v : (c.is_past.result && (c.args.turn % 2 == 0)) ≡ c.if-is_past.value = elim c.if-is_past.branch [
      | then-is_past w ↦ ap (λ b. b && (c.args.turn % 2 == 0)) w.if-is_past.true ∙ sym w.value-is
      | else-is_past w ↦ ap (λ b. b && (c.args.turn % 2 == 0)) w.if-is_past.false ∙ sym w.if-is_past.false ∙ sym w.value-is
    ] in
    c.if-turn-eq0.false ∙ held_not c.args.sight c.args.turn (call k c.in-Some.first.now) (calls k c.in-Some.ensures.0) c.is_past.result c.is_past.ensures (v ∙ c.if-turn-eq0.false)
    ∙ ap (λ cs. can_claim_held c.args.sight (calls k cs) c.args.turn) (sym c.in-Some.ensures.1)
