-- How a processor that was never away passed the grace periods.
use Rattle.std.proofs.Common.{◌≡◌, ℕ, zero, suc, ◌+◌, ◌-◌, ◌*◌, false, List, [], ◌∷◌, length, sym, ap, ◌∙◌, arith}
use Rattle.std.specs.List.{All}
use mathlib.Core.Option.{some, some-injective, some-ne-none}
use lib.ListN.{get_elem?}
use Rattle.std.proofs.lemmas.List.Elements.{All-head, All-tail}
use Rattle.rcu_board.specs.Quiets.{Chain, IsQuiet}
use Rattle.rcu_board.specs.declared.view.Quiet.{Quiet}

abbrev IsReport : Quiet → Type 0
IsReport x = x.away ≡ false

-- a report behind k others
report_at : (k : ℕ) (x : Quiet) → x.from ≡ 4 * k + 1 - 4 → IsQuiet x → IsReport x → x.to ≡ 4 * k + 1
report_at k x from quiet report = let r = quiet.reported report in omega (arith, from, r.0, r.1)

pub number_at : (k from to i : ℕ) (x : Quiet) (xs : List Quiet) → from ≡ 4 * k + 1 - 4 → Chain from xs to → All IsReport xs → get_elem? xs i ≡ some x → x.to ≡ 4 * (k + i) + 1
unfolding Chain
number_at k from to i x [] at h all e = absurd (some-ne-none x (sym e))
number_at k from to zero x (y ∷ ys) at h all e =
    let t = report_at k y (h.0 ∙ at) h.1 (All-head IsReport y ys all) in
    let same : y ≡ x = some-injective y x e in
    omega (arith, t, ap (λ (q : Quiet). q.to) same)
number_at k from to (suc i) x (y ∷ ys) at h all e =
    let t = report_at k y (h.0 ∙ at) h.1 (All-head IsReport y ys all) in
    let r = number_at (suc k) y.to to i x ys (omega (arith, t)) h.2 (All-tail IsReport y ys all) e in
    omega (arith, r)

pub as_many_reports : (k from to : ℕ) (xs : List Quiet) → from ≡ 4 * k + 1 - 4 → Chain from xs to → All IsReport xs → to ≡ 4 * (k + length xs) + 1 - 4
unfolding Chain
as_many_reports k from to [] at h all = omega (arith, at, h)
as_many_reports k from to (y ∷ ys) at h all =
    let t = report_at k y (h.0 ∙ at) h.1 (All-head IsReport y ys all) in
    let r = as_many_reports (suc k) y.to to ys (omega (arith, t)) h.2 (All-tail IsReport y ys all) in
    omega (arith, r)
