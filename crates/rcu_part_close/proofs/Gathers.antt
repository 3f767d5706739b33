-- What a view knows that took in others.
use Rattle.std.proofs.Common.{◌≡◌, ℕ, zero, suc, ◌+◌, ◌<◌, ◌≤◌, false, List, [], ◌∷◌, ◌++◌, length, get_or, sym, ◌∙◌, refl, arith}
use Rattle.std.specs.List.{All}
use Rattle.rcu_board.specs.Views.{Every, joined, joined_tallies, seen_at, tally, total}
use Rattle.rcu_board.specs.Words.{is_asks}
use Rattle.rcu_board.specs.declared.view.Claim.{Claim}
use Rattle.rcu_board.specs.declared.view.Own.{Own}
use Rattle.rcu_board.specs.declared.view.View.{View}
use Rattle.rcu_board.proofs.Facts.{joined-first, joined-long, joined-second}
use Rattle.rcu_board.proofs.Views.{total-append}
use Rattle.rcu_part_close.specs.Gathered.{gather}
use Rattle.std.proofs.lemmas.List.Elements.{All-cons, All-head, All-nil, All-tail}
use Rattle.rcu_part_close.proofs.Every.{every_left, every_right}

-- one more
pub gather_more : (v : View) (ws : List View) (w : View) → gather v (ws ++ w ∷ []) ≡ joined (gather v ws) w
gather_more v [] w = refl
gather_more v (u ∷ ws) w = gather_more (joined v u) ws w

pub gather_append : (v : View) (us ws : List View) → gather v (us ++ ws) ≡ gather (gather v us) ws
gather_append v [] ws = refl
gather_append v (u ∷ us) ws = gather_append (joined v u) us ws

-- the weights add up
pub gather_weight : (v : View) (ws : List View) → (gather v ws).weight ≡ total (λ (w : View). w.weight) (v ∷ ws)
gather_weight v [] = omega arith
gather_weight v (w ∷ ws) = let h = gather_weight (joined v w) ws in omega arith

-- the claims are joined
pub gather_claims : (f : Claim → ℕ) (v : View) (ws : List View) → total f (gather v ws).claims ≡ total (λ (w : View). total f w.claims) (v ∷ ws)
gather_claims f v [] = omega arith
gather_claims f v (w ∷ ws) = let h = gather_claims f (joined v w) ws in let a = total-append f v.claims w.claims in omega arith

-- what is said of all processors and claims of the whole is said of those of each
pub gather_each : (P : Own → Type 0) (Q : Claim → Type 0) (v : View) (ws : List View) → Every P (gather v ws).own → Every Q (gather v ws).claims → All (λ w. Every P w.own × Every Q w.claims) (v ∷ ws)
gather_each P Q v [] a b = All-cons (λ (w : View). Every P w.own × Every Q w.claims) v [] (a, b) (All-nil (λ (w : View). Every P w.own × Every Q w.claims))
gather_each P Q v (w ∷ ws) a b =
    let S : View → Type 0 = λ w. Every P w.own × Every Q w.claims in
    let t = gather_each P Q (joined v w) ws a b in
    let h = All-head S (joined v w) ws t in
    All-cons S v (w ∷ ws) (every_left P v.own w.own h.0, every_left Q v.claims w.claims h.1)
    (All-cons S w ws (every_right P v.own w.own h.0, every_right Q v.claims w.claims h.1) (All-tail S (joined v w) ws t))

-- the sight of a word that only grows is at least that of each
pub gather_sights : (n i : ℕ) → i < n → is_asks i ≡ false → (v : View) (ws : List View) → All (λ (w : View). length w.seen ≡ n) (v ∷ ws) → All (λ (w : View). seen_at w i ≤ seen_at (gather v ws) i) (v ∷ ws)
gather_sights n i near grows v [] long = All-cons (λ (w : View). seen_at w i ≤ seen_at v i) v [] (omega arith) (All-nil (λ (w : View). seen_at w i ≤ seen_at v i))
gather_sights n i near grows v (w ∷ ws) long =
    let L : View → Type 0 = λ w. length w.seen ≡ n in
    let lv = All-head L v (w ∷ ws) long in
    let rest = All-tail L v (w ∷ ws) long in
    let lw = All-head L w ws rest in
    let all = gather (joined v w) ws in
    let S : View → Type 0 = λ u. seen_at u i ≤ seen_at all i in
    let t = gather_sights n i near grows (joined v w) ws (All-cons L (joined v w) ws (joined-long v w n lv lw) (All-tail L w ws rest)) in
    let h = All-head S (joined v w) ws t in
    let a = joined-first v w i (lv ∙ sym lw) (omega arith) grows in
    let b = joined-second v w i (lv ∙ sym lw) (omega arith) grows in
    All-cons S v (w ∷ ws) (omega arith) (All-cons S w ws (omega arith) (All-tail S (joined v w) ws t))

-- what is said of the sights of the whole, and of those that it keeps from merges, is said of those of each
every_merged : (P : List ℕ → Type 0) (v : View) (ws : List View) → Every P (gather v ws).merged → Every P v.merged
unfolding Every
every_merged P v [] h = h
every_merged P v (w ∷ ws) h = every_left P v.merged w.merged (every_merged P (joined v w) ws h).1.1

pub gather_seen : (P : List ℕ → Type 0) (v : View) (ws : List View) → P (gather v ws).seen → Every P (gather v ws).merged → All (λ (w : View). P w.seen) (v ∷ ws)
unfolding Every
gather_seen P v [] a b = All-cons (λ (w : View). P w.seen) v [] a (All-nil (λ (w : View). P w.seen))
gather_seen P v (w ∷ ws) a b =
    let S : View → Type 0 = λ u. P u.seen in
    let kept = every_merged P (joined v w) ws b in
    All-cons S v (w ∷ ws) kept.0 (All-cons S w ws kept.1.0 (All-tail S (joined v w) ws (gather_seen P (joined v w) ws a b)))

-- the tallies add up
tallies_at : (xs ys : List ℕ) (i : ℕ) → get_or (joined_tallies xs ys) i 0 ≡ get_or xs i 0 + get_or ys i 0
tallies_at [] ys i = omega arith
tallies_at (x ∷ xs) [] i = omega arith
tallies_at (x ∷ xs) (y ∷ ys) zero = refl
tallies_at (x ∷ xs) (y ∷ ys) (suc i) = tallies_at xs ys i

pub gather_tallies : (i : ℕ) (v : View) (ws : List View) → tally (gather v ws) i ≡ total (λ (w : View). tally w i) (v ∷ ws)
gather_tallies i v [] = omega arith
gather_tallies i v (w ∷ ws) = let h = gather_tallies i (joined v w) ws in let a = tallies_at v.steps w.steps i in omega arith
