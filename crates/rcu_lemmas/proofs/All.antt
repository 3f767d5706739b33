-- What is said of each element of a list, beside `Rattle.std.proofs.lemmas.List.Elements`.
use Rattle.std.proofs.Common.{suc, List, [], ◌∷◌, ◌++◌, map, get_or, arith}
use Rattle.std.specs.List.{All}
use Rattle.std.proofs.lemmas.List.Elements.{All-cons, All-head, All-nil, All-tail}

module _ {A : Type 0} where
  pub All-append_left : (P : A → Type 0) (xs ys : List A) → All P (xs ++ ys) → All P xs
  All-append_left P [] ys h = All-nil P
  All-append_left P (x ∷ xs) ys h = All-cons P x xs (All-head P x (xs ++ ys) h) (All-append_left P xs ys (All-tail P x (xs ++ ys) h))

  pub All-append_right : (P : A → Type 0) (xs ys : List A) → All P (xs ++ ys) → All P ys
  All-append_right P [] ys h = h
  All-append_right P (x ∷ xs) ys h = All-append_right P xs ys (All-tail P x (xs ++ ys) h)

  pub All-both : (P Q S : A → Type 0) (xs : List A) → ((x : A) → P x → Q x → S x) → All P xs → All Q xs → All S xs
  All-both P Q S xs f a b k d lt = f (get_or xs k d) (a k d lt) (b k d lt)

module _ {A B : Type 0} where
  pub All-unmap : (P : B → Type 0) (f : A → B) (xs : List A) → All P (map f xs) → All (λ x. P (f x)) xs
  All-unmap P f [] h = All-nil (λ x. P (f x))
  All-unmap P f (x ∷ xs) h = All-cons (λ x. P (f x)) x xs (All-head P (f x) (map f xs) h) (All-unmap P f xs (All-tail P (f x) (map f xs) h))
