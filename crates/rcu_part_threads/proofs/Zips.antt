-- Lists place by place: what was started, what threads gave back, and what came of it.
use Rattle.std.proofs.Common.{◌≡◌, List, [], ◌∷◌, ◌++◌, map, length, append_assoc, ap, sym, ◌∙◌, subst, Some, None}
use Rattle.std.specs.Prelude.{All}
use Rattle.std.specs.List.{AllZip}
use Rattle.std.proofs.lemmas.List.{nil_from_length}
use Rattle.std.proofs.lemmas.List.Elements.{All-cons, All-head, All-nil, All-tail}
use Rattle.rcu_lemmas.proofs.Zips.{all_of, zip_chain, zip_push}

-- what there is is not none
pub some_never : {A P : Type 0} {x : A} → Some x ≡ None → P
some_never is = absurd (cc)

module _ {A B : Type 0} where
  -- what is said of each of the first is said of each of the second
  pub zip_all : (P : A → Type 0) (Q : A → B → Type 0) (S : B → Type 0) → ((x : A) (y : B) → Q x y → P x → S y) → (xs : List A) (ys : List B) → AllZip Q xs ys → All P xs → All S ys
  zip_all P Q S f [] [] q p = All-nil S
  zip_all P Q S f [] (y ∷ ys) q p = absurd q
  zip_all P Q S f (x ∷ xs) [] q p = absurd q
  zip_all P Q S f (x ∷ xs) (y ∷ ys) q p = All-cons S y ys (f x y q.0 (All-head P x xs p)) (zip_all P Q S f xs ys q.1 (All-tail P x xs p))

-- what is said of each of two lists, once those of the first went on
pub zip_along : {A B : Type 0} (P Q : A → B → Type 0) (S : A → A → Type 0) → ((x y : A) (z : B) → S x y → P x z → Q y z) → (xs ys : List A) (zs : List B) → AllZip S xs ys → AllZip P xs zs → AllZip Q ys zs
zip_along P Q S f [] [] [] s p = tt
zip_along P Q S f [] [] (z ∷ zs) s p = absurd p
zip_along P Q S f [] (y ∷ ys) zs s p = absurd s
zip_along P Q S f (x ∷ xs) [] zs s p = absurd s
zip_along P Q S f (x ∷ xs) (y ∷ ys) [] s p = absurd p
zip_along P Q S f (x ∷ xs) (y ∷ ys) (z ∷ zs) s p = (f x y z s.0 p.0, zip_along P Q S f xs ys zs s.1 p.1)

-- of what was taken from each
pub zip_mapped : {A B C D : Type 0} (f : A → C) (g : B → D) (P : C → D → Type 0) → (xs : List A) (ys : List B) → AllZip (λ x y. P (f x) (g y)) xs ys → AllZip P (map f xs) (map g ys)
zip_mapped f g P [] [] p = tt
zip_mapped f g P [] (y ∷ ys) p = absurd p
zip_mapped f g P (x ∷ xs) [] p = absurd p
zip_mapped f g P (x ∷ xs) (y ∷ ys) p = (p.0, zip_mapped f g P xs ys p.1)

module _ {A H B : Type 0} (of : H → A) where
  -- Each thread has its part, and keeps what it promised of it.
  pub zip_kept : (K : H → B → Type 0) (S : A → B → Type 0) → ((h : H) (y : B) → K h y → S (of h) y) → (xs : List A) (hs : List H) (ys : List B) → AllZip (λ x h. of h ≡ x) xs hs → AllZip K hs ys → AllZip S xs ys
  zip_kept K S f xs hs ys s k = zip_chain (λ x h. of h ≡ x) K S (λ x h y e kept. subst (λ z. S z y) e (f h y kept)) xs hs ys s k

module _ {A H : Type 0} (of : H → A) where
  -- one more part has a thread
  pub started_more : (done rest more all : List A) (x : A) (hs is : List H) (h : H) → done ++ rest ≡ all → rest ≡ x ∷ more → is ≡ hs ++ h ∷ [] → of h ≡ x → AllZip (λ p t. of t ≡ p) done hs
      → (done ++ x ∷ [] ++ more ≡ all) × AllZip (λ p t. of t ≡ p) (done ++ x ∷ []) is
  started_more done rest more all x hs is h order step pushed its started =
      (append_assoc done (x ∷ []) more ∙ (ap (λ l. done ++ l) (sym step) ∙ order), subst (AllZip (λ p t. of t ≡ p) (done ++ x ∷ [])) (sym pushed) (zip_push (λ p t. of t ≡ p) done hs x h started its))

  -- all parts have a thread, where none is left
  pub all_started : (done rest all : List A) (hs is : List H) → done ++ rest ≡ all → length rest ≡ 0 → is ≡ hs → AllZip (λ p t. of t ≡ p) done hs → AllZip (λ p t. of t ≡ p) all is
  all_started done rest all hs is order none same its = subst (λ l. AllZip (λ p t. of t ≡ p) l is) (all_of done rest all order (nil_from_length rest none)) (subst (λ l. AllZip (λ p t. of t ≡ p) done l) (sym same) its)
