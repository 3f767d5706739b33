use Rattle.std.proofs.Common.{◌≡◌, ℕ, ◌+◌, ◌*◌, [], ◌∷◌, ◌++◌, ap, sym, ◌∙◌, refl, subst, arith}
use Rattle.rcu_board.specs.Plays.{claim_of}
use Rattle.rcu_board.specs.Roles.{MayClaim, cpu_of_role}
use Rattle.rcu_board.specs.Seats.{AtBoard, running_number, view}
use Rattle.rcu_board.specs.Views.{tally}
use Rattle.rcu_board.specs.Words.{turns_word, words_of}
use Rattle.rcu_board.specs.declared.board.Role.{Role}
use Rattle.rcu_board.proofs.Stepping.{has_words}
use Rattle.rcu_part_steps.proofs.Claiming.{once_on, turn_near}
use Rattle.bench_board.proofs.kinds.ClaimKind.step.Goals as goal

pub returns-clause-made : goal.returns-clause-made
returns-clause-made c = λ _. let b = c.args.board.now in let s = c.args.seat.now in let t = c.claim.new.seat in
    let v = view s in let w = view t in let z = view c.finish.new.seat in let same = c.claim.ensures.same in
    let p = cpu_of_role s.role in let q = cpu_of_role t.role in
    let may : MayClaim t.role = subst (λ (r : Role). MayClaim r) (sym same.role) c.requires.ready.0 in
    let at : AtBoard b t = same.table ∙ c.requires.board in
    let first = once_on (words_of b.processors) (turns_word p) (2 * c.args.number + 1) v (record v { claims = v.claims ++ claim_of p c.args.number v ∷ []; running = claim_of p c.args.number v ∷ [] }) w
    (has_words b s c.requires.board) (turn_near b s c.requires.board c.requires.ready.0) refl refl refl c.in-Won.ensures.won in
    let second = once_on (words_of b.processors) (turns_word q) (2 * running_number w + 2) w (record w { running = [] }) z
    (has_words b t at) (turn_near b t at may) refl refl refl c.finish.ensures.view in
    let one = first.steps in
    let other = subst (λ (k : ℕ). tally z (turns_word k) ≡ tally w (turns_word k) + 1) (ap cpu_of_role same.role) second.steps in
    omega (arith, one, other)
