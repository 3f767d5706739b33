-- What a runtime knows of its processors once it is open.
use Rattle.std.proofs.Common.{◌≡◌, ℕ, List, [], ◌∷◌, sum_by, All, arith, refl}
use Rattle.std.specs.List.{AllZip}
use Rattle.std.proofs.lemmas.List.Sums.{sum_by-cons}
use Rattle.rcu_board.specs.declared.board.Board.{Board}
use Rattle.rcu_numbers.specs.declared.parts_shape.PartsShape.{PartsShape}
use Rattle.rcu_part_processor.specs.declared.processor.Processor.{Processor}
use Rattle.rcu_part_order.specs.declared.recorded.Kept.{Kept}
use Rattle.rcu_parts.specs.Openings.{IsFirstProcessor}
use Rattle.std.proofs.lemmas.List.Elements.{All-cons, All-nil}

module _ {J R : Type 0} (shape : PartsShape) (kept : Kept) (b : Board) where
  pub first_limits : (ks : List ℕ) (ps : List (Processor J R)) → AllZip (IsFirstProcessor shape kept b) ks ps → All (λ p. p.state.limit ≡ shape.limit) ps
  first_limits [] [] z = All-nil (λ (p : Processor J R). p.state.limit ≡ shape.limit)
  first_limits [] (p ∷ ps) z = absurd z
  first_limits (k ∷ ks) [] z = absurd z
  first_limits (k ∷ ks) (p ∷ ps) z = All-cons (λ (p : Processor J R). p.state.limit ≡ shape.limit) p ps z.0.part.limit (first_limits ks ps z.1)

  pub first_none : (ks : List ℕ) (ps : List (Processor J R)) → AllZip (IsFirstProcessor shape kept b) ks ps → sum_by (λ p. p.state.accepted) ps ≡ 0
  first_none [] [] z = refl
  first_none [] (p ∷ ps) z = absurd z
  first_none (k ∷ ks) [] z = absurd z
  first_none (k ∷ ks) (p ∷ ps) z = omega (arith, z.0.part.accepted, first_none ks ps z.1, sum_by-cons (λ (x : Processor J R). x.state.accepted) p ps)
