-- What is said of every element of a view's list, where lists are joined.
use Rattle.std.proofs.Common.{zero, suc, List, [], ◌∷◌, ◌++◌, arith}
use Rattle.std.specs.List.{All}
use Rattle.rcu_board.specs.Views.{Every}

module _ {A : Type 0} where
  pub every_left : (P : A → Type 0) (xs ys : List A) → Every P (xs ++ ys) → Every P xs
  unfolding Every
  every_left P [] ys h = tt
  every_left P (x ∷ xs) ys h = (h.0, every_left P xs ys h.1)

  pub every_right : (P : A → Type 0) (xs ys : List A) → Every P (xs ++ ys) → Every P ys
  unfolding Every
  every_right P [] ys h = h
  every_right P (x ∷ xs) ys h = every_right P xs ys h.1

  pub every_all : (P : A → Type 0) (xs : List A) → Every P xs → All P xs
  unfolding Every
  every_all P [] h k d lt = absurd (omega arith)
  every_all P (x ∷ xs) h zero d lt = h.0
  every_all P (x ∷ xs) h (suc k) d lt = every_all P xs h.1 k d (omega arith)

  pub every_both : (P Q : A → Type 0) (xs : List A) → Every P xs → Every Q xs → Every (λ x. P x × Q x) xs
  unfolding Every
  every_both P Q [] h k = tt
  every_both P Q (x ∷ xs) h k = ((h.0, k.0), every_both P Q xs h.1 k.1)
