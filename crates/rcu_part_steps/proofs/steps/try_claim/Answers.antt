use Rattle.std.proofs.Common.{◌≡◌, ℕ, ◌+◌, ◌*◌, ◌<◌, [], ◌∷◌, ◌++◌, ap, sym, ◌∙◌, refl, subst, arith}
use Rattle.rcu_board.specs.Plays.{claim_of, touched}
use Rattle.rcu_board.specs.Roles.{cpu_of_role}
use Rattle.rcu_board.specs.Seats.{view}
use Rattle.rcu_board.specs.Views.{seen_at}
use Rattle.rcu_board.specs.Words.{turns_word, words_of}
use Rattle.rcu_board.specs.declared.view.View.{View}
use Rattle.rcu_board.proofs.Stepping.{has_words}
use Rattle.rcu_part_steps.specs.Changes.{StepsOnly}
use Rattle.rcu_part_steps.proofs.Claiming.{keeps_touched, once_on, seen_now, turn_near}
use Rattle.rcu_part_steps.proofs.Telling.{sight_touched}
use Rattle.rcu_part_steps.proofs.steps.try_claim.Goals as goal

pub returns-in-Won-clause-only : goal.returns-in-Won-clause-only
returns-in-Won-clause-only c = let b = c.args.board.now in let s = c.args.seat.now in let v = view s in let p = cpu_of_role s.role in
    subst (λ (q : ℕ). StepsOnly (turns_word q) 1 v (view c.claim.new.seat)) c.requires.cpu
    (once_on (words_of b.processors) (turns_word p) (2 * c.args.number + 1) v (record v { claims = v.claims ++ claim_of p c.args.number v ∷ []; running = claim_of p c.args.number v ∷ [] }) (view c.claim.new.seat)
    (has_words b s c.requires.board) (turn_near b s c.requires.board c.requires.who) refl refl refl c.in-Won.ensures.won)

pub returns-in-Not-clause-only : goal.returns-in-Not-clause-only
returns-in-Not-clause-only c = let b = c.args.board.now in let s = c.args.seat.now in let v = view s in let p = cpu_of_role s.role in
    subst (λ (q : ℕ). StepsOnly (turns_word q) 1 v (view c.claim.new.seat)) c.requires.cpu
    (once_on (words_of b.processors) (turns_word p) c.in-Not.field-0 v v (view c.claim.new.seat)
    (has_words b s c.requires.board) (turn_near b s c.requires.board c.requires.who) refl refl refl c.in-Not.ensures.lost)

pub returns-in-Not-clause-lost : goal.returns-in-Not-clause-lost
returns-in-Not-clause-lost c = λ _. let b = c.args.board.now in let s = c.args.seat.now in let v = view s in let p = cpu_of_role s.role in
    let word = c.in-Not.field-0 in let w = view c.claim.new.seat in let e = c.in-Not.ensures.lost in
    let seen : seen_at w (turns_word p) ≡ word = seen_now (words_of b.processors) (turns_word p) word v w (has_words b s c.requires.board) (turn_near b s c.requires.board c.requires.who) e in (
      keeps_touched (turns_word p) word v w e,
      sight_touched (turns_word p) word v w (λ z. absurd (omega (arith, z))) e,
      λ same. c.in-Not.ensures.other (sym seen ∙ (ap (λ (q : ℕ). seen_at w (turns_word q)) c.requires.cpu ∙ same)),
    )
