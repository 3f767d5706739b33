-- Lists that are passed on, element by element.
use Rattle.std.proofs.Common.{◌≡◌, ◌∙◌, ℕ, suc, ◌+◌, ◌<◌, ◌≤◌, List, drop, [], ◌∷◌, ◌++◌, length, sym, ap, arith}
use Rattle.std.proofs.lemmas.List.{append_assoc, append-nil}

module _ {A : Type 0} where
  -- nothing is left
  pub all_passed : (done rest whole : List A) → done ++ rest ≡ whole → length rest ≡ 0 → done ≡ whole
  all_passed done [] whole e none = sym (append-nil done) ∙ e
  all_passed done (x ∷ rest) whole e none = absurd (omega (arith, none))

  -- one more
  pub one_passed : (done rest left whole : List A) (x : A) → done ++ rest ≡ whole → rest ≡ x ∷ left → (done ++ x ∷ []) ++ left ≡ whole
  one_passed done rest left whole x e split = append_assoc done (x ∷ []) left ∙ (ap (λ l. done ++ l) (sym split) ∙ e)

  -- one is put behind, and then all others
  pub put_behind : (all more now others whole : List A) (x first : A) → more ≡ all ++ x ∷ [] → now ≡ more ++ others → x ≡ first → others ≡ whole → now ≡ all ++ first ∷ whole
  put_behind all more now others whole x first e f same rest = f ∙ (ap (λ l. l ++ others) e ∙ (append_assoc all (x ∷ []) others ∙ (ap (λ y. all ++ y ∷ others) same ∙ ap (λ l. all ++ first ∷ l) rest)))

  -- of a list that has one, one more than nothing is taken off the front
  pub never_popped : (all left : List A) (n : ℕ) → all ≡ left → left ≡ drop 1 all → length all ≡ suc n → ⊥
  never_popped [] left n e f long = omega (arith, long)
  never_popped (x ∷ xs) left n e f long = let a = ap (λ (l : List A). length l) e in let b = ap (λ (l : List A). length l) f in omega (arith, a, b)

  -- where there is room for all that are left, there is room for the first
  pub room_now : (rest left : List A) (x : A) (len cap : ℕ) → rest ≡ x ∷ left → len + length rest ≤ cap → len < cap
  room_now rest left x len cap e room = let a = ap (λ (l : List A). length l) e in omega (arith, a, room)

  -- and then for the others, if it came in
  pub room_kept : (rest left : List A) (x : A) (len cap now full : ℕ) → rest ≡ x ∷ left → len + length rest ≤ cap → now ≡ len + 1 → full ≡ cap → now + length left ≤ full
  room_kept rest left x len cap now full e room one same = let a = ap (λ (l : List A). length l) e in omega (arith, a, room, one, same)

  -- or didn't
  pub room_spared : (rest left : List A) (x : A) (len cap : ℕ) → rest ≡ x ∷ left → len + length rest ≤ cap → len + length left ≤ cap
  room_spared rest left x len cap e room = let a = ap (λ (l : List A). length l) e in omega (arith, a, room)

  -- room that was asked for holds all, while there is none yet
  pub room_begun : (rest whole : List A) (n many len cap : ℕ) → rest ≡ whole → n ≡ many → many ≡ length whole → len ≡ 0 → n ≤ cap → len + length rest ≤ cap
  room_begun rest whole n many len cap e asked long none room = let a = ap (λ (l : List A). length l) e in omega (arith, a, asked, long, none, room)

  -- one less is left
  pub one_less : (x : A) (all left : List A) → all ≡ x ∷ left → length left < length all
  one_less x all left e = let a = ap (λ (l : List A). length l) e in omega (arith, a)

-- all are there, where none is left
pub all_there : (k r n len : ℕ) → k + r ≡ n → len ≡ 0 → len ≡ r → k ≡ n
all_there k r n len e none same = omega arith

-- room that was asked for holds as many
pub room_of : (n len all cap : ℕ) → n ≡ len → len ≡ all → n ≤ cap → all ≤ cap
room_of n len all cap e same h = omega arith

-- there is room for the first
pub room_first : (start more all : ℕ) → start + suc more ≤ all → start < all
room_first start more all h = omega arith

-- how many there are with the first and all others
pub all_long : (start len now more rest whole : ℕ) → len ≡ start + 1 → now ≡ len + more → more ≡ rest → rest ≡ whole → now ≡ start + suc whole
all_long start len now more rest whole e f same here = omega (arith, e, f, same, here)

-- where there is room for all, there is room for all but the first
pub never_full : (start len cap all more rest whole : ℕ) → len ≡ start + 1 → cap ≡ all → more ≡ rest → rest ≡ whole → start + suc whole ≤ all → cap < len + more → ⊥
never_full start len cap all more rest whole e f same here room full = omega (arith, e, f, same, here, room, full)

-- there is room for the one at i, where there is room for all
pub room_at : (i len cap all : ℕ) → len ≡ i → i < all → all ≤ cap → len < cap
room_at i len cap all e low room = omega (arith, e, low, room)
