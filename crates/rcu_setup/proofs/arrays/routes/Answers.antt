use Rattle.std.proofs.Common.{◌≡◌, ℕ, ◌+◌, ◌<◌, List, [], ◌∷◌, ◌++◌, ◌∙◌, Bor, length, get_or, map, drop, sym, ap, arith}
use Rattle.std.proofs.lemmas.List.{at_drop_more, at_drop_all, map-append}
use Rattle.std.proofs.lemmas.Result.{err_from_is_err_and}
use Rattle.rcu_setup.specs.Arrays.{route_view, routes_of, routes_view}
use Rattle.rcu_setup.specs.Faults.{bad_route, or_fault, ◌>>◌}
use Rattle.rcu_setup.specs.Words.{Route, route}
use Rattle.rcu_setup.proofs.Steps.{fault_passes}
use Rattle.rcu_setup.proofs.arrays.routes.Goals as goal

-- the routes of the texts from item i on, by the first of these
first : (i : ℕ) (found : List Route) (texts : List (Bor (List ℕ))) (other : Bor (List ℕ)) → i < length texts → routes_of (i + 1) found (map (λ s. s.now) (drop i texts)) ≡ (or_fault (bad_route (i + 1)) (route (get_or texts i other).now) >> (λ r. routes_of (i + 1 + 1) (found ++ r ∷ []) (map (λ s. s.now) (drop (i + 1) texts))))
first i found texts other h = at_drop_more (λ z. routes_of (i + 1) found (map (λ s. s.now) z)) texts i other h

pub loop-i-init : goal.loop-i-init
loop-i-init c = record {
  rest = ap (λ z. routes_of 1 (map route_view z) (map (λ s. s.now) c.args.texts.now)) c.new-found.ensures.items;
  each = c.new-found.ensures.len;
}

pub bounds-texts-i : goal.bounds-texts-i
bounds-texts-i c = omega arith

pub overflow_add-i : goal.overflow_add-i
overflow_add-i c = omega arith

pub returns-in_err-route_at-clause-answer : goal.returns-in_err-route_at-clause-answer
returns-in_err-route_at-clause-answer c = let l = c.loop-i in
    let p = err_from_is_err_and c.from_residual.result c.from_residual.ensures.1 in
    let is = sym l.invariant.rest ∙ first l.i (routes_view l.found) c.args.texts.now (record { ref_ptr = (0, 0); now = [] }) (omega arith) in
    rw (p.1, p.2) (fault_passes c.in_err-route_at.field-0.0 _ _ _ is c.in_err-route_at.ensures)

pub returns-in_err-route_at-clause-each : goal.returns-in_err-route_at-clause-each
returns-in_err-route_at-clause-each c = let p = err_from_is_err_and c.from_residual.result c.from_residual.ensures.1 in rw p.1 tt

pub returns-in_err-push-clause-answer : goal.returns-in_err-push-clause-answer
returns-in_err-push-clause-answer c = let p = err_from_is_err_and c.from_residual-in_err-push.result c.from_residual-in_err-push.ensures.1 in rw (p.1, p.2) tt

pub returns-in_err-push-clause-each : goal.returns-in_err-push-clause-each
returns-in_err-push-clause-each c = let p = err_from_is_err_and c.from_residual-in_err-push.result c.from_residual-in_err-push.ensures.1 in rw p.1 tt

pub loop-i-preserved : goal.loop-i-preserved
loop-i-preserved c = let l = c.loop-i in
    let is = sym l.invariant.rest ∙ first l.i (routes_view l.found) c.args.texts.now (record { ref_ptr = (0, 0); now = [] }) (omega arith) in
    let found = ap (map route_view) c.in_ok-push.ensures.items ∙ map-append route_view l.found.items _ in record {
      rest = ap (λ fs. routes_of (l.i + 1 + 1) fs (map (λ s. s.now) (drop (l.i + 1) c.args.texts.now))) found ∙ sym (rw c.in_ok-route_at.ensures at is);
      each = omega (arith, c.in_ok-push.ensures.len, l.invariant.each);
    }

pub returns-clause-answer : goal.returns-clause-answer
returns-clause-answer c = let l = c.loop-i in
    sym l.invariant.rest ∙ at_drop_all (λ z. routes_of (l.i + 1) (routes_view l.found) (map (λ s. s.now) z)) c.args.texts.now l.i (omega arith)

pub returns-clause-each : goal.returns-clause-each
returns-clause-each c = c.loop-i.invariant.each ∙ omega arith
