-- How many grace periods each processor passed, one processor after another.
use Rattle.std.proofs.Common.{◌≡◌, ℕ, ◌+◌, ◌∙◌, List, [], ◌∷◌, ◌++◌, map, drop, sym, ap}
use Rattle.std.proofs.lemmas.List.{append_assoc, append-nil}
use Rattle.rcu_board.specs.Seats.{reports_of}
use Rattle.rcu_part_processor.specs.Processors.{view_of}
use Rattle.rcu_part_processor.specs.declared.processor.Processor.{Processor}

module _ {J R : Type 0} where
  abbrev pub passed_by : Processor J R → ℕ
  passed_by p = reports_of (view_of p.state)

  -- the first i are counted, and the others are left
  abbrev pub CountedTo : ℕ → List (Processor J R) → List ℕ → Type 0
  CountedTo i ps counts = counts ++ map passed_by (drop i ps) ≡ map passed_by ps

  -- one more
  pub one_counted : (i : ℕ) (p : Processor J R) (ps : List (Processor J R)) (counts more : List ℕ) → drop i ps ≡ p ∷ drop (i + 1) ps → more ≡ counts ++ passed_by p ∷ [] → CountedTo i ps counts → CountedTo (i + 1) ps more
  one_counted i p ps counts more at longer h =
      ap (λ l. l ++ map passed_by (drop (i + 1) ps)) longer ∙ (append_assoc counts (passed_by p ∷ []) (map passed_by (drop (i + 1) ps)) ∙ (ap (λ l. counts ++ map passed_by l) (sym at) ∙ h))

  -- all of them
  pub all_counted : (i : ℕ) (ps : List (Processor J R)) (counts : List ℕ) → drop i ps ≡ [] → CountedTo i ps counts → counts ≡ map passed_by ps
  all_counted i ps counts none h = sym (append-nil counts) ∙ (ap (λ l. counts ++ map passed_by l) (sym none) ∙ h)
