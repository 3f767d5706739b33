-- What is done to each element of a list, and is answered each time.
use Rattle.std.specs.Prelude.{◌≡◌, ℕ, ◌≤◌, List, [], ◌∷◌, sum, All, Option, Some, None, IfSome}
use Rattle.std.specs.List.{Contains}

module _ {A X : Type 0} where
  -- There are as many answers as elements before and after, and R holds of the three at each place.
  abbrev pub Each : (A → X → X → Type 0) → List A → List X → List X → Type 0
  Each R [] [] [] = Unit {0}
  Each R (a ∷ answers) (x ∷ olds) (y ∷ news) = R a x y × Each R answers olds news
  Each R answers olds news = ⊥

-- R holds of each element before and after with some number, and these numbers sum up to the total.
pub record Sums {X : Type 0} (R : ℕ → X → X → Type 0) (total : ℕ) (olds news : List X) : Type 0 where
  pub each : List ℕ
  pub total_is : total ≡ sum each
  pub elements : Each R each olds news

-- the greatest number of those that are there; none where none is
abbrev pub IsGreatest : Option ℕ → List (Option ℕ) → Type 0
IsGreatest None ns = All (λ n. n ≡ None) ns
IsGreatest (Some m) ns = Contains ns (Some m) × All (λ n. IfSome n (λ k. k ≤ m)) ns
