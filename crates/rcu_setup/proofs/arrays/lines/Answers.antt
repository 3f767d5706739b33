use Rattle.std.proofs.Common.{◌≡◌, ℕ, ◌+◌, ◌<◌, List, [], ◌∷◌, ◌++◌, ◌∙◌, Bor, length, get_or, map, drop, sym, ap, arith}
use Rattle.std.proofs.lemmas.List.{at_drop_more, at_drop_all, map-append}
use Rattle.std.proofs.lemmas.Result.{err_from_is_err_and}
use Rattle.rcu_setup.specs.Arrays.{lines_of, lines_view}
use Rattle.rcu_setup.specs.Faults.{bad_line, or_fault, ◌>>◌}
use Rattle.rcu_setup.specs.Words.{parts}
use Rattle.rcu_setup.specs.Line.{Line, line_of, words_line}
use Rattle.rcu_setup.proofs.Steps.{fault_passes}
use Rattle.rcu_setup.proofs.arrays.lines.Goals as goal

-- the lines of the texts from item i on, by the first of these
first : (i : ℕ) (found : List Line) (texts : List (Bor (List ℕ))) (other : Bor (List ℕ)) → i < length texts → lines_of (i + 1) found (map (λ s. s.now) (drop i texts)) ≡ (or_fault (bad_line (i + 1)) (words_line (parts 32 (get_or texts i other).now)) >> (λ r. lines_of (i + 1 + 1) (found ++ r ∷ []) (map (λ s. s.now) (drop (i + 1) texts))))
first i found texts other h = at_drop_more (λ z. lines_of (i + 1) found (map (λ s. s.now) z)) texts i other h

pub loop-i-init : goal.loop-i-init
loop-i-init c = record {
  rest = ap (λ z. lines_of 1 (map line_of z) (map (λ s. s.now) c.args.texts.now)) c.new-found.ensures.items;
  each = c.new-found.ensures.len;
}

pub bounds-texts-i : goal.bounds-texts-i
bounds-texts-i c = omega arith

pub overflow_add-i : goal.overflow_add-i
overflow_add-i c = omega arith

pub returns-in_err-line_at-clause-answer : goal.returns-in_err-line_at-clause-answer
returns-in_err-line_at-clause-answer c = let l = c.loop-i in
    let p = err_from_is_err_and c.from_residual.result c.from_residual.ensures.1 in
    let is = sym l.invariant.rest ∙ first l.i (lines_view l.found) c.args.texts.now (record { ref_ptr = (0, 0); now = [] }) (omega arith) in
    rw (p.1, p.2) (fault_passes c.in_err-line_at.field-0.0 _ _ _ is c.in_err-line_at.ensures)

pub returns-in_err-line_at-clause-each : goal.returns-in_err-line_at-clause-each
returns-in_err-line_at-clause-each c = let p = err_from_is_err_and c.from_residual.result c.from_residual.ensures.1 in rw p.1 tt

pub returns-in_err-push-clause-answer : goal.returns-in_err-push-clause-answer
returns-in_err-push-clause-answer c = let p = err_from_is_err_and c.from_residual-in_err-push.result c.from_residual-in_err-push.ensures.1 in rw (p.1, p.2) tt

pub returns-in_err-push-clause-each : goal.returns-in_err-push-clause-each
returns-in_err-push-clause-each c = let p = err_from_is_err_and c.from_residual-in_err-push.result c.from_residual-in_err-push.ensures.1 in rw p.1 tt

pub loop-i-preserved : goal.loop-i-preserved
loop-i-preserved c = let l = c.loop-i in
    let is = sym l.invariant.rest ∙ first l.i (lines_view l.found) c.args.texts.now (record { ref_ptr = (0, 0); now = [] }) (omega arith) in
    let found = ap (map line_of) c.in_ok-push.ensures.items ∙ map-append line_of l.found.items _ in record {
      rest = ap (λ fs. lines_of (l.i + 1 + 1) fs (map (λ s. s.now) (drop (l.i + 1) c.args.texts.now))) found ∙ sym (rw c.in_ok-line_at.ensures at is);
      each = omega (arith, c.in_ok-push.ensures.len, l.invariant.each);
    }

pub returns-clause-answer : goal.returns-clause-answer
returns-clause-answer c = let l = c.loop-i in
    sym l.invariant.rest ∙ at_drop_all (λ z. lines_of (l.i + 1) (lines_view l.found) (map (λ s. s.now) z)) c.args.texts.now l.i (omega arith)

pub returns-clause-each : goal.returns-clause-each
returns-clause-each c = c.loop-i.invariant.each ∙ omega arith
