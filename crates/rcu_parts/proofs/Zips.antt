-- Two lists, place by place.
use Rattle.std.proofs.Common.{◌≡◌, ℕ, zero, suc, ◌+◌, ◌<◌, List, [], ◌∷◌, ◌++◌, length, ap, sym, ◌∙◌, refl, subst, arith}
use Rattle.std.specs.Prelude.{All, sum_by}
use Rattle.std.specs.List.{AllZip, range_with_len}
use Rattle.std.proofs.lemmas.List.{nil_from_length}
use Rattle.std.proofs.lemmas.List.Elements.{All-cons, All-nil}
use Rattle.std.proofs.lemmas.List.Sums.{sum_by-cons}
use Rattle.rcu_board.specs.Opened.{InOrder, SeatForEach}
use Rattle.rcu_board.specs.declared.board.Seat.{Seat}

module _ {A B : Type 0} (R : A → B → Type 0) where
  -- what holds of each that has a partner
  pub zip_all : (P : B → Type 0) → ((x : A) (y : B) → R x y → P y) → (xs : List A) (ys : List B) → AllZip R xs ys → All P ys
  zip_all P f [] [] h = All-nil P
  zip_all P f [] (b ∷ bs) h = absurd h
  zip_all P f (a ∷ as') [] h = absurd h
  zip_all P f (a ∷ as') (b ∷ bs) h = All-cons P b bs (f a b h.0) (zip_all P f as' bs h.1)

  -- as many ones
  pub zip_ones : (w : B → ℕ) → ((x : A) (y : B) → R x y → w y ≡ 1) → (xs : List A) (ys : List B) → AllZip R xs ys → sum_by w ys ≡ length xs
  zip_ones w f [] [] h = refl
  zip_ones w f [] (b ∷ bs) h = absurd h
  zip_ones w f (a ∷ as') [] h = absurd h
  zip_ones w f (a ∷ as') (b ∷ bs) h = let one = f a b h.0 in let more = zip_ones w f as' bs h.1 in let cons = sum_by-cons w b bs in omega (arith, one, more, cons)

-- one number more
pub range_more : (a n b : ℕ) → a + n ≡ b → range_with_len a (suc n) ≡ range_with_len a n ++ b ∷ []
range_more a zero b e = let same : a ≡ b = omega (arith, e) in ap (λ x. x ∷ []) same
range_more a (suc n) b e = ap (λ l. a ∷ l) (range_more (a + 1) n b (omega (arith, e)))

-- ---- seats

pub first_seat : (P : ℕ → Seat → Type 0) (k : ℕ) (x : Seat) (xs : List Seat) → InOrder P k (x ∷ xs) → P k x × InOrder P (suc k) xs
unfolding InOrder
first_seat P k x xs h = h

-- the first of the seats that are left, and what is left then
pub seat_taken : (P : ℕ → Seat → Type 0) (k n cpu : ℕ) (all : List Seat) (x : Seat) (rest : List Seat) → InOrder P k all → k + length all ≡ n → cpu ≡ k → all ≡ x ∷ rest
    → P cpu x × (cpu < n) × InOrder P (suc k) rest × (suc k + length rest ≡ n)
seat_taken P k n cpu all x rest h many same e = let f = first_seat P k x rest (subst (InOrder P k) e h) in let long = ap (λ (l : List Seat). length l) e in
    (subst (λ z. P z x) (sym same) f.0, omega (arith, many, same, long), f.1, omega (arith, many, long))

pub seat_and_rest : (P : ℕ → Seat → Type 0) (ks : List ℕ) (x : Seat) (xs : List Seat) → SeatForEach P ks (x ∷ xs) → (k : ℕ) × (js : List ℕ) × (ks ≡ k ∷ js) × P k x × SeatForEach P js xs
unfolding SeatForEach
seat_and_rest P [] x xs h = absurd h
seat_and_rest P (k ∷ ks) x xs h = (k, ks, refl, h.0, h.1)

pub as_many_seats : (P : ℕ → Seat → Type 0) (ks : List ℕ) (xs : List Seat) → SeatForEach P ks xs → length xs ≡ length ks
unfolding SeatForEach
as_many_seats P [] [] h = refl
as_many_seats P [] (x ∷ xs) h = absurd h
as_many_seats P (k ∷ ks) [] h = absurd h
as_many_seats P (k ∷ ks) (x ∷ xs) h = let more = as_many_seats P ks xs h.1 in omega (arith, more)

-- none is left
pub seats_over : (P : ℕ → Seat → Type 0) (ks : List ℕ) (xs : List Seat) → SeatForEach P ks xs → length xs ≡ 0 → ks ≡ []
seats_over P ks xs h e = nil_from_length ks (sym (as_many_seats P ks xs h) ∙ e)
