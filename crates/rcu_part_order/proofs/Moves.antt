-- How the places of a processor's own part change
use Rattle.std.proofs.Common.{◌≡◌, ℕ, zero, suc, ◌+◌, ◌<◌, Bool, true, false, cond, List, [], ◌∷◌, ◌++◌, length, sym, ap, ◌∙◌, refl, subst, arith, append_assoc, append-nil, length-append, get_or}
use Rattle.std.proofs.Math.Seq.{get_or-append_seam}
use Rattle.std.proofs.lemmas.List.{map-append}
use Rattle.rcu_part_order.specs.Places.{Accepted, Numbered, with_number, numbered, Move, claimed_of, put_of, moved, Placed}

numbered-append : (k : ℕ) (xs ys : List Accepted) → numbered k (xs ++ ys) ≡ numbered k xs ++ numbered (k + length xs) ys
numbered-append k [] ys = ap (λ (j : ℕ). numbered j ys) (omega arith)
numbered-append k (x ∷ xs) ys = ap (λ l. with_number k x ∷ l) (numbered-append (k + 1) xs ys ∙ ap (λ (j : ℕ). numbered (k + 1) xs ++ numbered j ys) (omega arith))

numbered-length : (k : ℕ) (xs : List Accepted) → length (numbered k xs) ≡ length xs
numbered-length k [] = refl
numbered-length k (x ∷ xs) = ap suc (numbered-length (k + 1) xs)

claimed-append : (ms ns : List Move) → claimed_of (ms ++ ns) ≡ claimed_of ms ++ claimed_of ns
claimed-append [] ns = refl
claimed-append (m ∷ ms) ns =
    let ih = claimed-append ms ns in
    let P : Bool → Type 0 = λ b. cond b (m.what ∷ claimed_of (ms ++ ns)) (claimed_of (ms ++ ns)) ≡ cond b (m.what ∷ claimed_of ms) (claimed_of ms) ++ claimed_of ns in
    elim m.claimed as P [ true ↦ ap (λ l. m.what ∷ l) ih | false ↦ ih ]

put-append : (ms ns : List Move) → put_of (ms ++ ns) ≡ put_of ms ++ put_of ns
put-append [] ns = refl
put-append (m ∷ ms) ns =
    let ih = put-append ms ns in
    let P : Bool → Type 0 = λ b. cond b (put_of (ms ++ ns)) (m.what ∷ put_of (ms ++ ns)) ≡ cond b (put_of ms) (m.what ∷ put_of ms) ++ put_of ns in
    elim m.claimed as P [ true ↦ ih | false ↦ ap (λ l. m.what ∷ l) ih ]

pub placed_none : Placed [] [] [] []
placed_none = record { moves = []; ran_is = refl; put_is = refl; all = refl }

-- one more is accepted, and held
pub placed_accepts : (accepted : List Accepted) (ran put held : List Numbered) (x : Accepted) → Placed accepted ran put held → Placed (accepted ++ x ∷ []) ran put (held ++ with_number (length accepted) x ∷ [])
placed_accepts accepted ran put held x p = record {
  moves = p.moves;
  ran_is = p.ran_is;
  put_is = p.put_is;
  all = numbered-append 0 accepted (x ∷ [])
      ∙ (ap (λ (j : ℕ). numbered 0 accepted ++ with_number j x ∷ []) (omega arith)
      ∙ (ap (λ l. l ++ with_number (length accepted) x ∷ []) p.all ∙ append_assoc (moved p.moves) held (with_number (length accepted) x ∷ [])));
}

-- the first one held leaves
left_first : (ms : List Move) (m : Move) (xs held : List Numbered) → xs ≡ moved ms ++ m.what ∷ held → xs ≡ moved (ms ++ m ∷ []) ++ held
left_first ms m xs held e = e ∙ (sym (append_assoc (moved ms) (m.what ∷ []) held) ∙ ap (λ l. l ++ held) (sym (map-append (λ (v : Move). v.what) ms (m ∷ []))))

-- the first one held is claimed
pub placed_claims : (accepted : List Accepted) (ran put held : List Numbered) (x : Numbered) → Placed accepted ran put (x ∷ held) → Placed accepted (ran ++ x ∷ []) put held
placed_claims accepted ran put held x p =
    let m : Move = record { claimed = true; what = x } in
    record {
      moves = p.moves ++ m ∷ [];
      ran_is = claimed-append p.moves (m ∷ []) ∙ ap (λ l. l ++ x ∷ []) p.ran_is;
      put_is = put-append p.moves (m ∷ []) ∙ (append-nil (put_of p.moves) ∙ p.put_is);
      all = left_first p.moves m (numbered 0 accepted) held p.all;
    }

-- the first one held is put
puts_one : (accepted : List Accepted) (ran put held : List Numbered) (x : Numbered) → Placed accepted ran put (x ∷ held) → Placed accepted ran (put ++ x ∷ []) held
puts_one accepted ran put held x p =
    let m : Move = record { claimed = false; what = x } in
    record {
      moves = p.moves ++ m ∷ [];
      ran_is = claimed-append p.moves (m ∷ []) ∙ (append-nil (claimed_of p.moves) ∙ p.ran_is);
      put_is = put-append p.moves (m ∷ []) ∙ ap (λ l. l ++ x ∷ []) p.put_is;
      all = left_first p.moves m (numbered 0 accepted) held p.all;
    }

-- the first ones held are put, as one batch
pub placed_puts : (accepted : List Accepted) (ran put batch held : List Numbered) → Placed accepted ran put (batch ++ held) → Placed accepted ran (put ++ batch) held
placed_puts accepted ran put [] held p = subst (λ l. Placed accepted ran l held) (sym (append-nil put)) p
placed_puts accepted ran put (x ∷ xs) held p =
    subst (λ l. Placed accepted ran l held) (append_assoc put (x ∷ []) xs) (placed_puts accepted ran (put ++ x ∷ []) xs held (puts_one accepted ran put (xs ++ held) x p))

-- Lengths.

moves_length : (ms : List Move) → length (moved ms) ≡ length (claimed_of ms) + length (put_of ms)
moves_length [] = refl
moves_length (m ∷ ms) =
    let ih = moves_length ms in
    let P : Bool → Type 0 = λ b. suc (length (moved ms)) ≡ length (cond b (m.what ∷ claimed_of ms) (claimed_of ms)) + length (cond b (put_of ms) (m.what ∷ put_of ms)) in
    elim m.claimed as P [ true ↦ omega arith | false ↦ omega arith ]

pub placed_all : (accepted : List Accepted) (ran put held : List Numbered) → Placed accepted ran put held → length accepted ≡ length ran + length put + length held
placed_all accepted ran put held p =
    let a = sym (numbered-length 0 accepted) ∙ (ap length p.all ∙ length-append (moved p.moves) held) in
    let b = moves_length p.moves in
    let c = ap length p.ran_is in
    let d = ap length p.put_is in
    omega arith

numbered_at : (k i : ℕ) (accepted : List Accepted) (d : Numbered) → i < length accepted → (get_or (numbered k accepted) i d).number ≡ k + i
numbered_at k i [] d h = absurd (omega arith)
numbered_at k zero (x ∷ xs) d h = omega arith
numbered_at k (suc i) (x ∷ xs) d h = let r = numbered_at (k + 1) i xs d (omega arith) in omega arith

-- the first number that is held is as many as left
pub held_first : (accepted : List Accepted) (ran put held : List Numbered) (x : Numbered) → Placed accepted ran put (x ∷ held) → x.number ≡ length ran + length put
held_first accepted ran put held x p =
    let n = length (moved p.moves) in
    let l : length accepted ≡ n + suc (length held) = sym (numbered-length 0 accepted) ∙ (ap length p.all ∙ length-append (moved p.moves) (x ∷ held)) in
    let a = numbered_at 0 n accepted x (omega arith) in
    let is : get_or (numbered 0 accepted) n x ≡ x = ap (λ y. get_or y n x) p.all ∙ get_or-append_seam (moved p.moves) x held x in
    let e = ap (λ (u : Numbered). u.number) is in
    let b = moves_length p.moves in
    let c = ap length p.ran_is in
    let d = ap length p.put_is in
    omega arith

pub held_below : (accepted : List Accepted) (ran put held : List Numbered) (x : Numbered) → Placed accepted ran put (x ∷ held) → x.number < length accepted
held_below accepted ran put held x p =
    let a = placed_all accepted ran put (x ∷ held) p in
    let b = held_first accepted ran put held x p in
    omega arith
