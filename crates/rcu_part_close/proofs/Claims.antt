-- The claims of all views on one processor are the records of that processor and of its hand.
use Rattle.std.proofs.Common.{◌≡◌, ◌≢◌, ℕ, zero, suc, ◌+◌, ◌<◌, ◌==◌, cond, eq-eqb, ne_eqb, Option, Some, None, List, [], ◌∷◌, map, length, get_or, ap, ◌∙◌, refl, arith}
use Rattle.std.specs.List.{All}
use Rattle.rcu_board.specs.Views.{claimed, one_if_claim, total}
use Rattle.rcu_board.specs.declared.view.View.{View}
use Rattle.rcu_board.proofs.Views.{total-append}
use Rattle.rcu_jobs.specs.declared.callback.Record.{Record}
use Rattle.rcu_part_order.specs.Order.{is_number, times}
use Rattle.rcu_part_order.specs.Records.{numbered_record, numbered_records}
use Rattle.rcu_part_close.specs.Closing.{CpuEnd, InRow, seats_of}
use Rattle.rcu_part_steps.specs.Places.{claim_of}
use Rattle.rcu_part_close.specs.Parts.{HandClaims, HandPart, IsAtRest, hand_ran, hand_views, views_of}
use Rattle.std.proofs.lemmas.List.Elements.{All-head, All-tail}

module _ {R : Type 0} where
  own_claims : (p q j : ℕ) (ran : List (Record R)) → q ≡ p → total (one_if_claim p j) (map (claim_of q) ran) ≡ times j (numbered_records ran)
  own_claims p q j [] e = refl
  own_claims p q j (r ∷ ran) e =
      let t = own_claims p q j ran e in
      let b : one_if_claim p j (claim_of q r) ≡ is_number j (numbered_record r) = ap (λ z. cond z (cond (r.number == j) 1 0) 0) (eq-eqb q p e) in omega arith

  other_claims : (p q j : ℕ) (ran : List (Record R)) → q ≢ p → total (one_if_claim p j) (map (claim_of q) ran) ≡ 0
  other_claims p q j [] e = refl
  other_claims p q j (r ∷ ran) e =
      let t = other_claims p q j ran e in
      let b : one_if_claim p j (claim_of q r) ≡ 0 = ap (λ z. cond z (cond (r.number == j) 1 0) 0) (ne_eqb q p e) in omega arith

module _ {J R : Type 0} where
  -- a processor and its hand
  on_cpu : (p j cpu : ℕ) (view : View) (own : List (Record R)) (hand : Option (HandPart J R)) → cpu ≡ p → view.claims ≡ map (claim_of cpu) own → HandClaims cpu hand
      → total (claimed p j) (view ∷ hand_views hand) ≡ times j (numbered_records own) + times j (numbered_records (hand_ran hand))
  on_cpu p j cpu view own None e claims hand = let a = ap (total (one_if_claim p j)) claims ∙ own_claims p cpu j own e in omega arith
  on_cpu p j cpu view own (Some h) e claims hand =
      let a = ap (total (one_if_claim p j)) claims ∙ own_claims p cpu j own e in
      let b = ap (total (one_if_claim p j)) hand ∙ own_claims p cpu j h.ran e in omega arith

  off_cpu : (p j cpu : ℕ) (view : View) (own : List (Record R)) (hand : Option (HandPart J R)) → cpu ≢ p → view.claims ≡ map (claim_of cpu) own → HandClaims cpu hand → total (claimed p j) (view ∷ hand_views hand) ≡ 0
  off_cpu p j cpu view own None e claims hand = let a = ap (total (one_if_claim p j)) claims ∙ other_claims p cpu j own e in omega arith
  off_cpu p j cpu view own (Some h) e claims hand =
      let a = ap (total (one_if_claim p j)) claims ∙ other_claims p cpu j own e in
      let b = ap (total (one_if_claim p j)) hand ∙ other_claims p cpu j h.ran e in omega arith

  abbrev Rests : CpuEnd J R → Type 0
  Rests e = IsAtRest e.part

  -- those behind the row
  row_after : (p j k : ℕ) (es : List (CpuEnd J R)) → p < k → InRow k es → All Rests es → total (claimed p j) (seats_of es) ≡ 0
  unfolding InRow
  row_after p j k [] lt row rests = refl
  row_after p j k (e ∷ es) lt row rests =
      let r = All-head Rests e es rests in
      let t = row_after p j (suc k) es (omega arith) row.1 (All-tail Rests e es rests) in
      let a = off_cpu p j e.part.cpu e.part.view e.part.own e.part.hand (λ same. omega (arith, same, row.0)) r.claims r.hand_claims in
      let b = total-append (claimed p j) (views_of e.part) (seats_of es) in omega arith

  pub row_at : (p j k i : ℕ) (es : List (CpuEnd J R)) (d : CpuEnd J R) → i < length es → p ≡ k + i → InRow k es → All Rests es
      → total (claimed p j) (seats_of es) ≡ times j (numbered_records (get_or es i d).part.own) + times j (numbered_records (hand_ran (get_or es i d).part.hand))
  unfolding InRow
  row_at p j k i [] d lt at row rests = absurd (omega arith)
  row_at p j k zero (e ∷ es) d lt at row rests =
      let r = All-head Rests e es rests in
      let t = row_after p j (suc k) es (omega arith) row.1 (All-tail Rests e es rests) in
      let a = on_cpu p j e.part.cpu e.part.view e.part.own e.part.hand (omega (arith, at, row.0)) r.claims r.hand_claims in
      let b = total-append (claimed p j) (views_of e.part) (seats_of es) in omega arith
  row_at p j k (suc i) (e ∷ es) d lt at row rests =
      let r = All-head Rests e es rests in
      let t = row_at p j (suc k) i es d (omega arith) (omega arith) row.1 (All-tail Rests e es rests) in
      let a = off_cpu p j e.part.cpu e.part.view e.part.own e.part.hand (λ same. omega (arith, same, at, row.0)) r.claims r.hand_claims in
      let b = total-append (claimed p j) (views_of e.part) (seats_of es) in omega arith

  pub cpu_at : (k i : ℕ) (es : List (CpuEnd J R)) (d : CpuEnd J R) → i < length es → InRow k es → (get_or es i d).part.cpu ≡ k + i
  unfolding InRow
  cpu_at k i [] d lt row = absurd (omega arith)
  cpu_at k zero (e ∷ es) d lt row = omega (arith, row.0)
  cpu_at k (suc i) (e ∷ es) d lt row = let t = cpu_at (suc k) i es d (omega arith) row.1 in omega arith

-- seats that claimed nothing
pub no_claims : (p j : ℕ) (ws : List View) → All (λ (w : View). w.claims ≡ []) ws → total (claimed p j) ws ≡ 0
no_claims p j [] h = refl
no_claims p j (w ∷ ws) h =
    let a = ap (total (one_if_claim p j)) (All-head (λ (w : View). w.claims ≡ []) w ws h) in
    let t = no_claims p j ws (All-tail (λ (w : View). w.claims ≡ []) w ws h) in omega arith
