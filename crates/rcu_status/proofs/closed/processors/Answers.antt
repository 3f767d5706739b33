use Rattle.std.proofs.Common.{◌≡◌, ℕ, ◌+◌, List, [], ◌∷◌, ◌++◌, length, Vec, Global, append_assoc, refl, sym, ◌∙◌, inl, inr}
use Rattle.std.proofs.lemmas.List.{append-nil}
use Rattle.rcu_jobs.specs.declared.callback.Record.{Record}
use Rattle.rcu_status.specs.Totals.{receipts_of, total_text, totals_text}
use Rattle.rcu_status.proofs.Appended.{appended}
use Rattle.rcu_status.proofs.closed.processors.Goals as goal

none_ran : {J : Type 0} (p : ℕ) (rans : List (Vec (Record ℕ) Global)) (backs : List (Vec J Global)) → length rans ≡ 0 → totals_text p rans backs ≡ []
none_ran p [] backs e = refl
none_ran p (ran ∷ rans) backs e = cc

none_back : {J : Type 0} (p : ℕ) (rans : List (Vec (Record ℕ) Global)) (backs : List (Vec J Global)) → length backs ≡ 0 → totals_text p rans backs ≡ []
none_back p [] backs e = refl
none_back p (ran ∷ rans) [] e = refl
none_back p (ran ∷ rans) (back ∷ backs) e = cc

-- no line is left
whole : (text rest all : List ℕ) → text ++ rest ≡ all → rest ≡ [] → text ≡ all
whole text rest all e none = sym (append-nil text) ∙ rw none at e

pub returns : goal.returns
returns g c =
    elim c.in-None.ensures.steps.0 [
      | inl ended ↦ whole _ _ _ c.loop-p.invariant (none_ran _ _ _ ended.1.0)
      | inr ended ↦ whole _ _ _ c.loop-p.invariant (none_back _ _ _ ended.1.0)
    ]

-- one line more is written, and one less is left
one_more : {J : Type 0} (text new all : List ℕ) (p count next : ℕ) (ran : Vec (Record ℕ) Global) (back : Vec J Global) (rans more_rans : List (Vec (Record ℕ) Global)) (backs more_backs : List (Vec J Global)) → text ++ totals_text count rans backs ≡ all → rans ≡ ran ∷ more_rans → backs ≡ back ∷ more_backs → p ≡ count → next ≡ count + 1 → new ≡ text ++ total_text p (length ran.items) (length back.items) (receipts_of ran.items) → new ++ totals_text next more_rans more_backs ≡ all
one_more text new all p count next ran back rans more_rans backs more_backs h r b at_p n written =
    let whole : text ++ (total_text count (length ran.items) (length back.items) (receipts_of ran.items) ++ totals_text (count + 1) more_rans more_backs) ≡ all = rw (r, b) at h in
    rw (written, at_p, n) (append_assoc text _ _ ∙ whole)

pub loop-p-preserved : goal.loop-p-preserved
loop-p-preserved g c =
    let steps = c.in-Some.ensures.steps in
    one_more _ _ _ c.in-Some.p _ _ c.in-Some.ran.now c.in-Some.back.now _ _ _ _ c.loop-p.invariant steps.0.0 steps.0.1 steps.1 steps.2
    (appended c.ends.result _ _ _ c.in_ok-append.ensures c.ends.ensures)
