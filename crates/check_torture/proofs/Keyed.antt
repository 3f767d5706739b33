-- Keys that are found place by place are those of the whole list.
use Rattle.std.proofs.Common.{◌≡◌, ℕ, suc, List, [], ◌∷◌, ◌++◌, length, map, arith, ap, refl, ◌∙◌}
use Rattle.std.specs.Prelude.{unwrap_or}
use Rattle.rcu_jobs.specs.declared.callback.Record.{Record}
use Rattle.check_torture.specs.Left.{AreAt, AreKeyed}
use Rattle.check_torture.specs.Retired.{version_of}
use Rattle.check_torture.specs.declared.retire.Retire.{Retire}

module _ {X : Type 0} (f : X → ℕ) where
  pub map_at : (keys : List ℕ) (xs : List X) → length keys ≡ length xs → AreAt f keys xs → keys ≡ map f xs
  map_at [] [] same at = refl
  map_at [] (x ∷ xs) same at = absurd (let z : ⊥ = omega (arith, same) in z)
  map_at (k ∷ keys) [] same at = absurd (let z : ⊥ = omega (arith, same) in z)
  map_at (k ∷ keys) (x ∷ xs) same at = ap (λ a. a ∷ keys) (ap (λ o. unwrap_or o k) (at 0 x refl))
      ∙ ap (λ l. f x ∷ l) (map_at keys xs (omega (arith, same)) (λ i y e. at (suc i) y e))

-- the keys of the records, and then those of the jobs, each found at its place
pub all_keyed : (keys ran back : List ℕ) (records : List (Record ℕ)) (jobs : List Retire) → keys ≡ ran ++ back → length ran ≡ length records → length back ≡ length jobs
    → AreAt (λ r. r.key) ran records → AreAt version_of back jobs → AreKeyed keys records jobs
all_keyed keys ran back records jobs parts one two first second = parts
    ∙ (ap (λ l. l ++ back) (map_at (λ r. r.key) ran records one first) ∙ ap (λ l. map (λ r. r.key) records ++ l) (map_at version_of back jobs two second))
