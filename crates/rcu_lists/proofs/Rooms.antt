-- The room that a batch has, and what stays with it.
use Rattle.std.proofs.Common.{◌≡◌, ◌≤◌, ◌+◌, ◌∙◌, ℕ, List, [], ◌∷◌, ◌++◌, length, ap, arith, length-append, ◌<◌, refl, IsTrue, ◌↔◌, eqb, take, drop, length-drop, Option, subst, sym}
use Rattle.std.proofs.lemmas.Bool.{eqb-true}
use Rattle.std.proofs.lemmas.List.{length-take-le}
use Rattle.std.proofs.Math.Bridge.{le_prop}
use Rattle.std.proofs.Math.Nat.{ℕ_set}
use Rattle.rcu_jobs.specs.declared.callback.Callback.{Callback}
use Rattle.rcu_lists.specs.Filled.{filled, AreFilled}
use Rattle.rcu_lists.proofs.Fills.{filled-le}
use Rattle.rcu_lists.specs.declared.batch.Batch.{Batch}
use Rattle.rcu_lists.specs.declared.batch.TheConstants.{INLINE_PLACES}
use Rattle.smallvec.specs.SmallVec.{SmallVec, HasRoomFor}

module _ {T : Type 0} where
  pub room-empty : (v : SmallVec T) (n : ℕ) → v.items ≡ [] → v.capacity ≡ n → HasRoomFor v n
  room-empty v n e h = let none = ap length e in omega arith

  pub room-kept : (old new : SmallVec T) → new.items ≡ old.items → old.capacity ≤ new.capacity → (k : ℕ) → HasRoomFor old k → HasRoomFor new k
  room-kept old new e h k room = let same = ap length e in omega arith

  pub room-pushed : (old new : SmallVec T) (x : T) → new.items ≡ old.items ++ x ∷ [] → new.capacity ≡ old.capacity → (k : ℕ) → HasRoomFor old (k + 1) → HasRoomFor new k
  room-pushed old new x e h k room = let more = ap length e ∙ length-append old.items (x ∷ []) in omega arith

  -- one more
  pub length-one_more : (xs ys : List T) (x : T) → ys ≡ xs ++ x ∷ [] → length ys ≡ length xs + 1
  length-one_more xs ys x e = ap length e ∙ length-append xs (x ∷ [])

  -- some are left
  pub none-left : (i n : ℕ) (xs ys : List T) → i < n → n ≤ length xs → ys ≡ drop i xs → (len : ℕ) → len ≡ length ys → len ≡ 0 → ⊥
  none-left i n xs ys lt le e len of none = let left = ap length e ∙ length-drop i xs in omega arith

  -- whether there are none
  pub none-iff : (xs : List T) (n : ℕ) → n ≡ length xs → IsTrue (eqb n 0) ↔ (xs ≡ [])
  none-iff [] n e = rw e ((λ _. refl), λ _. refl)
  none-iff (x ∷ xs) n e = ((λ h. absurd (let z = eqb-true n 0 h in omega arith)), λ h. absurd cc)

  -- what was moved out leaves room
  pub room-moved : (xs ys bs : List T) (t most most' : ℕ) → t ≤ length xs → ys ≡ drop t xs → bs ≡ take t xs → most' ≡ most → (k : ℕ) → length xs + k ≤ most → length ys + (k + length bs) ≤ most'
  room-moved xs ys bs t most most' le d b m k h =
      let left = ap length d ∙ length-drop t xs in let moved = ap length b ∙ length-take-le t xs le in omega arith

-- a batch is its places, and where those not taken begin
module _ {J : Type 0} where
  abbrev pub made : (s : SmallVec (Option (Callback J))) (n u : ℕ) → n ≤ length s.items → AreFilled (drop n s.items) → INLINE_PLACES ≤ s.capacity → HasRoomFor s 0 → Batch J
  made s n u w p i r = record { slots = s; next = n; usual = u; within = w; full = p; inline = i; fits = r }

  same-places : (s : SmallVec (Option (Callback J))) (n u : ℕ) (v w : n ≤ length s.items) (p q : AreFilled (drop n s.items)) (i j : INLINE_PLACES ≤ s.capacity) (r t : HasRoomFor s 0) → made s n u w q j t ≡ made s n u v p i r
  same-places s n u v w p q i j r t = ap (λ x. made s n u x q j t) (le_prop w v) ∙ ap (λ x. made s n u v x j t) (ℕ_set _ _ q p) ∙ ap (λ x. made s n u v p x t) (le_prop j i) ∙ ap (λ x. made s n u v p i x) (le_prop t r)

  pub same-batch : (old : Batch J) (t : SmallVec (Option (Callback J))) → t ≡ old.slots → (w : old.next ≤ length t.items) (q : AreFilled (drop old.next t.items)) (j : INLINE_PLACES ≤ t.capacity) (r : HasRoomFor t 0) → made t old.next old.usual w q j r ≡ old
  same-batch old t e = subst (λ (u : SmallVec (Option (Callback J))). (w : old.next ≤ length u.items) (q : AreFilled (drop old.next u.items)) (j : INLINE_PLACES ≤ u.capacity) (r : HasRoomFor u 0) → made u old.next old.usual w q j r ≡ old) (sym e)
      (λ w q j r. same-places old.slots old.next old.usual old.within w old.full q old.inline j old.fits r)

  -- a batch that is not on the heap holds no more than stand in it
  pub most-left : (b : Batch J) → (INLINE_PLACES < b.slots.capacity → ⊥) → length (filled (drop b.next b.slots.items)) ≤ INLINE_PLACES
  most-left b h = let le = filled-le (drop b.next b.slots.items) in let left = length-drop b.next b.slots.items in let fits = b.fits in omega (arith, h)
