-- Two lists place by place, and a list that is taken item by item.
use Rattle.std.proofs.Common.{◌≡◌, ℕ, ◌+◌, ◌<◌, ◌≤◌, List, [], ◌∷◌, ◌++◌, map, length, append-nil, append_assoc, ap, sym, ◌∙◌, refl, subst, arith}
use Rattle.std.specs.List.{AllZip}

module _ {X : Type 0} where
  -- what doesn't change
  pub zip_map : {Y : Type 0} (S : X → X → Type 0) (f : X → Y) → ((x y : X) → S x y → f y ≡ f x) → (olds news : List X) → AllZip S olds news → map f news ≡ map f olds
  zip_map S f step [] [] e = refl
  zip_map S f step [] (z ∷ news) e = absurd e
  zip_map S f step (w ∷ olds) [] e = absurd e
  zip_map {Y} S f step (w ∷ olds) (z ∷ news) e = ap (λ (y : Y). y ∷ map f news) (step w z e.0) ∙ ap (λ (ys : List Y). f w ∷ ys) (zip_map S f step olds news e.1)

  -- where nothing was done
  pub zip_same : (S : X → X → Type 0) → ((x : X) → S x x) → (xs : List X) → AllZip S xs xs
  zip_same S same [] = tt
  zip_same S same (x ∷ xs) = (same x, zip_same S same xs)

module _ {A B C : Type 0} where
  -- what is said of each of two steps is said of both together
  pub zip_chain : (P : A → B → Type 0) (Q : B → C → Type 0) (S : A → C → Type 0) → ((x : A) (y : B) (z : C) → P x y → Q y z → S x z) → (xs : List A) (ys : List B) (zs : List C) → AllZip P xs ys → AllZip Q ys zs → AllZip S xs zs
  zip_chain P Q S f [] [] [] p q = tt
  zip_chain P Q S f [] [] (z ∷ zs) p q = absurd q
  zip_chain P Q S f [] (y ∷ ys) zs p q = absurd p
  zip_chain P Q S f (x ∷ xs) [] zs p q = absurd p
  zip_chain P Q S f (x ∷ xs) (y ∷ ys) [] p q = absurd q
  zip_chain P Q S f (x ∷ xs) (y ∷ ys) (z ∷ zs) p q = (f x y z p.0 q.0, zip_chain P Q S f xs ys zs p.1 q.1)

-- over two lists of steps
pub zip_again : {X : Type 0} (S : X → X → Type 0) → ((x y z : X) → S x y → S y z → S x z) → (xs ys zs : List X) → AllZip S xs ys → AllZip S ys zs → AllZip S xs zs
zip_again S = zip_chain S S S

module _ {A B : Type 0} where
  -- a relation that says less
  pub zip_weaker : (P Q : A → B → Type 0) → ((x : A) (y : B) → P x y → Q x y) → (xs : List A) (ys : List B) → AllZip P xs ys → AllZip Q xs ys
  zip_weaker P Q f [] [] p = tt
  zip_weaker P Q f [] (y ∷ ys) p = absurd p
  zip_weaker P Q f (x ∷ xs) [] p = absurd p
  zip_weaker P Q f (x ∷ xs) (y ∷ ys) p = (f x y p.0, zip_weaker P Q f xs ys p.1)

  -- one pair more
  pub zip_push : (R : A → B → Type 0) → (xs : List A) (ys : List B) (x : A) (y : B) → AllZip R xs ys → R x y → AllZip R (xs ++ x ∷ []) (ys ++ y ∷ [])
  zip_push R [] [] x y h r = (r, tt)
  zip_push R [] (b ∷ bs) x y h r = absurd h
  zip_push R (a ∷ as') [] x y h r = absurd h
  zip_push R (a ∷ as') (b ∷ bs) x y h r = (h.0, zip_push R as' bs x y h.1 r)

  pub zip_pushed : (P : A → B → Type 0) → (xs : List A) (ys zs : List B) (x : A) (y : B) → zs ≡ ys ++ y ∷ [] → AllZip P xs ys → P x y → AllZip P (xs ++ x ∷ []) zs
  zip_pushed P xs ys zs x y pushed p q = subst (AllZip P (xs ++ x ∷ [])) (sym pushed) (zip_push P xs ys x y p q)

module _ {X : Type 0} where
  -- all were taken, where none is left
  pub all_of : (xs rest all : List X) → xs ++ rest ≡ all → rest ≡ [] → xs ≡ all
  all_of xs rest all h e = sym (append-nil xs) ∙ ap (λ l. xs ++ l) (sym e) ∙ h

  -- one more is taken from the list
  pub order_after : (done rest more all : List X) (x : X) → done ++ rest ≡ all → rest ≡ x ∷ more → done ++ x ∷ [] ++ more ≡ all
  order_after done rest more all x order step = append_assoc done (x ∷ []) more ∙ (ap (λ l. done ++ l) (sym step) ∙ order)

  -- where there is room for all that is left, there is room for one
  pub room_for_one : (n cap : ℕ) (rest more : List X) (x : X) → n + length rest ≤ cap → rest ≡ x ∷ more → n < cap
  room_for_one n cap rest more x room step = let e = ap (λ (l : List X). length l) step in omega (arith, room, e)

  -- and, once one more is in, room for all that is left then
  pub room_for_more : (n m cap dap : ℕ) (rest more : List X) (x : X) → n + length rest ≤ cap → rest ≡ x ∷ more → m ≡ n + 1 → dap ≡ cap → m + length more ≤ dap
  room_for_more n m cap dap rest more x room step one same = let e = ap (λ (l : List X). length l) step in omega (arith, room, e, one, same)
