-- Tickets that are tested one after another.
use Rattle.std.proofs.Common.{◌≡◌, ℕ, zero, suc, ◌+◌, ◌<◌, Some, None, List, [], ◌∷◌, length, drop, slice_index_or, ap, sym, ◌∙◌, refl, arith, subst}
use mathlib.Core.Logic.{dite}
use native.Mathlib.Decide.{ℕ_discrete}
use Rattle.rcu_jobs.specs.declared.Counts.{Counts}
use Rattle.rcu_jobs.specs.declared.Ticket.{Ticket}
use Rattle.rcu_jobs.specs.declared.BarrierFault.{BarrierFault}
use Rattle.rcu_part_control.specs.Barriers.{first_fault, ticket_fault, or_else, count_at}

-- what stands at a place of the list doesn't depend on what would stand outside
any_default : (ts : List Ticket) (i : ℕ) (x d : Ticket) → i < length ts → slice_index_or ts i x ≡ slice_index_or ts i d
any_default [] i x d low = absurd (omega arith)
any_default (t ∷ ts) zero x d low = refl
any_default (t ∷ ts) (suc i) x d low = any_default ts i x d (omega arith)

-- a ticket with no fault isn't the first that has one
pub passed_over : (counts : Counts) (ts : List Ticket) (i : ℕ) (d : Ticket) → i < length ts → ticket_fault counts (slice_index_or ts i d) ≡ None → first_fault counts (drop i ts) ≡ first_fault counts (drop (i + 1) ts)
passed_over counts [] i d low e = absurd (omega arith)
passed_over counts (t ∷ ts) zero d low e = ap (λ f. or_else f (first_fault counts ts)) e
passed_over counts (t ∷ ts) (suc i) d low e = subst (λ (k : ℕ). first_fault counts (drop i ts) ≡ first_fault counts (drop k (t ∷ ts))) suc_plus (passed_over counts ts i d (omega arith) e) where
  suc_plus : suc (i + 1) ≡ suc i + 1
  suc_plus = omega arith

pub found_first : (counts : Counts) (ts : List Ticket) (i : ℕ) (d : Ticket) (fault : BarrierFault) → i < length ts → ticket_fault counts (slice_index_or ts i d) ≡ Some fault → first_fault counts (drop i ts) ≡ Some fault
found_first counts [] i d fault low e = absurd (omega arith)
found_first counts (t ∷ ts) zero d fault low e = ap (λ f. or_else f (first_fault counts ts)) e
found_first counts (t ∷ ts) (suc i) d fault low e = found_first counts ts i d fault (omega arith) e

-- the tickets before one that has no fault, and it too
pub counted_next : (counts : Counts) (ts : List Ticket) (i : ℕ) (x : Ticket) → i < length ts → ((slice_index_or ts i x).cpu < counts.n) × ((slice_index_or ts i x).number < count_at counts (slice_index_or ts i x).cpu)
    → ((k : ℕ) (d : Ticket) → k < i → ((slice_index_or ts k d).cpu < counts.n) × ((slice_index_or ts k d).number < count_at counts (slice_index_or ts k d).cpu))
    → (k : ℕ) (d : Ticket) → k < i + 1 → ((slice_index_or ts k d).cpu < counts.n) × ((slice_index_or ts k d).number < count_at counts (slice_index_or ts k d).cpu)
counted_next counts ts i x low one before k d lower = dite (ℕ_discrete k i)
    (λ is. subst (λ (t : Ticket). (t.cpu < counts.n) × (t.number < count_at counts t.cpu)) (any_default ts i x d low ∙ ap (λ (j : ℕ). slice_index_or ts j d) (sym is)) one)
    (λ not. before k d (omega (arith, not)))
